-- Objects and channels as they are shown, without where that lies in memory.
use Rattle.std.specs.Prelude.{ℕ, List, Option, Bool, map, option_map}
use Rattle.run_view.specs.declared.seen_object.SeenObject.{SeenObject}
use Rattle.run_view.specs.declared.thing.Contents.{Contents}
use Rattle.run_view.specs.declared.thing.Contents.TheVariants as contents
use Rattle.run_view.specs.declared.thing.ThingView.{ThingView}
use Rattle.run_view.specs.declared.waiter.Waiter.{Waiter}

-- what an object or a channel holds
pub data PlainContents : Type 0 where
  queue : (count capacity : ℕ) (oldest : Option (List ℕ)) → PlainContents
  board : (shown : Option (List ℕ)) → PlainContents
  semaphore : (value maximum : ℕ) → PlainContents
  event : (is_up : Bool) → PlainContents
  mutex : (owner : Option ℕ) (count priority : ℕ) → PlainContents
  lock : (owner : Option ℕ) (level : ℕ) → PlainContents
  sampled : (written : Option (List ℕ × ℕ)) → PlainContents

-- an object or a channel: its name, what it holds, and who waits there
pub record PlainThing : Type 0 where
  pub name : List ℕ
  pub contents : PlainContents
  pub senders : List Waiter
  pub waiters : List Waiter

-- an object with its number
pub record PlainObject : Type 0 where
  pub number : ℕ
  pub thing : PlainThing

abbrev pub plain_contents : Contents → PlainContents
plain_contents (contents.Queue count capacity oldest) = queue count capacity (option_map (λ bytes. bytes.items) oldest)
plain_contents (contents.Board shown) = board (option_map (λ bytes. bytes.items) shown)
plain_contents (contents.Semaphore value maximum) = semaphore value maximum
plain_contents (contents.Event is_up) = event is_up
plain_contents (contents.Mutex owner count priority) = mutex owner count priority
plain_contents (contents.Lock owner level) = lock owner level
plain_contents (contents.Sampled written) = sampled (option_map (λ sample. (sample.0.items, sample.1)) written)

abbrev pub plain : ThingView → PlainThing
plain view =
    record { name = view.name.items; contents = plain_contents view.contents; senders = view.senders.items; waiters = view.waiters.items }

abbrev pub plain_object : SeenObject → PlainObject
plain_object object = record { number = object.number; thing = plain object.view }

abbrev pub plain_objects : List SeenObject → List PlainObject
plain_objects objects = map plain_object objects
