-- A tick that ends no wait changes nothing of a channel except a time.
use Rattle.std.proofs.Common.{◌≡◌, ◌∷◌, ◌+◌, ℕ, List, [], Bool, true, false, Option, Some, None, refl, ap}
use Rattle.apex_types.specs.declared.record.Body.{Body}
use Rattle.apex_types.specs.declared.record.Body.TheVariants.{Arrive, Call, Depart, Ret, Disp, Tick, Error}
use Rattle.apex_types.specs.declared.record.Ordered.{Ordered}
use Rattle.apex_machine.specs.declared.state.Entry.{Entry}
use Rattle.apex_machine.specs.Configuration.{Configuration}
use Rattle.apex_machine.specs.Demands.{LocalStep}
use Rattle.apex_machine.specs.Pieces.{ChannelPart, ModulePart, Part, PartitionPart, one_more, part_after}
use Rattle.apex_machine.specs.State.{Channel, is_named}
use Rattle.apex_machine.specs.Waiting.{without}
use Rattle.apex_laws.specs.PartBounds.{PeriodFits}
use Rattle.channel.specs.Held.{Settings}
use Rattle.piece_check.specs.Parts.{AgreesOn, CallerFits, HasCores, HoldsBefore}
use Rattle.piece_check.specs.Quiet.{is_quiet, passes_by}
use Rattle.piece_check.proofs.Parting.{HasCores_after, HoldsBefore_after}

-- nobody leaves a waiting set if nobody is named
without_nobody : (entries : List Entry) → without (λ who. is_named who []) entries ≡ entries
without_nobody [] = refl
without_nobody (entry ∷ entries) = ap (λ rest. entry ∷ rest) (without_nobody entries)

-- a quiet record is a tick that names nobody
quiet_is : (body : Body) → is_quiet body ≡ true → body ≡ Tick []
quiet_is (Tick []) quiet = refl
quiet_is (Tick (who ∷ others)) quiet = let clash : false ≡ true = quiet in cc
quiet_is (Call call) quiet = let clash : false ≡ true = quiet in cc
quiet_is (Ret ret) quiet = let clash : false ≡ true = quiet in cc
quiet_is (Disp who) quiet = let clash : false ≡ true = quiet in cc
quiet_is (Arrive crossing) quiet = let clash : false ≡ true = quiet in cc
quiet_is (Depart crossing) quiet = let clash : false ≡ true = quiet in cc
quiet_is (Error report) quiet = let clash : false ≡ true = quiet in cc

-- so it is a local step of a channel
pub quiet_step : (configuration : Configuration) (number : ℕ) (times : List ℕ) (channel : Channel) (ordered : Ordered) → is_quiet ordered.rec.body ≡ true
    → LocalStep configuration (ChannelPart number times channel) ordered (ChannelPart number (one_more ordered.core times) channel)
quiet_step configuration number times channel ordered quiet =
    rw (quiet_is ordered.rec.body quiet, without_nobody channel.senders, without_nobody channel.receivers) (tt, refl)

-- a record that is passed by is such a tick
quiet_of : (old : Part) (ordered : Ordered) → passes_by old ordered ≡ true → is_quiet ordered.rec.body ≡ true
quiet_of (ChannelPart number times channel) ordered passes = passes
quiet_of (ModulePart cores) ordered passes = let clash : false ≡ true = passes in cc
quiet_of (PartitionPart number cores partition) ordered passes = let clash : false ≡ true = passes in cc

-- a record changes nothing of what was given for a channel
agrees_after : (configuration : Configuration) (old : Part) (settings : Option Settings) (ordered : Ordered) → AgreesOn configuration old settings
    → AgreesOn configuration (part_after configuration old ordered) settings
agrees_after configuration (ModulePart cores) settings ordered agrees = agrees
agrees_after configuration (PartitionPart number cores partition) settings ordered agrees = agrees
agrees_after configuration (ChannelPart number times channel) (Some settings) ordered agrees = agrees
agrees_after configuration (ChannelPart number times channel) None ordered agrees = agrees

-- a piece that has made a step, or was left as it was, is of the same module
pub stays_of_module : (configuration : Configuration) (passed : Bool) (old new : Part) (settings settings' : Option Settings) (ordered : Ordered) → HasCores configuration.cores old
    → AgreesOn configuration old settings → settings' ≡ settings → (passed ≡ true → LocalStep configuration old ordered new) → (passed ≡ false → new ≡ old)
    → HasCores configuration.cores new × AgreesOn configuration new settings'
stays_of_module configuration true old new settings settings' ordered cores agrees same steps left =
    rw ((steps refl).1, same) (HasCores_after configuration.cores configuration old ordered cores, agrees_after configuration old settings ordered agrees)
stays_of_module configuration false old new settings settings' ordered cores agrees same steps left = rw (left refl, same) (cores, agrees)

-- any configuration: the times and the queues of a channel are the same in all
nothing : Configuration
nothing = record { cores = 0; frame = 0; skew = 0; partitions = []; windows = []; sampling = []; queuing = [] }

-- a piece that has passed a record by holds before the next place
pub passed_holds_before : (old new : Part) (ordered : Ordered) → passes_by old ordered ≡ true → HoldsBefore ordered.pos old
    → ((configuration : Configuration) → LocalStep configuration old ordered new) → HoldsBefore (ordered.pos + 1) new
passed_holds_before old new ordered passes before steps =
    let step = steps nothing in
    let body = quiet_is ordered.rec.body (quiet_of old ordered passes) in
    let period : PeriodFits ordered.rec.body = rw body tt in
    let caller : CallerFits ordered.rec.body = rw body tt in
    rw step.1 (HoldsBefore_after nothing old ordered before step.0 period caller)
