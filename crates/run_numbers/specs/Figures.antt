-- The figures of a run.
use Rattle.std.specs.Prelude.{ℕ, Bool, Option, Some, None}
use Rattle.apex_types.specs.declared.object_kind.ObjectKind.{ObjectKind}
use Rattle.apex_types.specs.declared.object_kind.ObjectKind.TheVariants as kind
use Rattle.run_numbers.specs.contracts.figure.FigurePartialEq.TheImpl as figures
use Rattle.run_numbers.specs.declared.figure.Figure.{Figure}
use Rattle.run_numbers.specs.declared.figure.Thing.{Thing}
use Rattle.run_numbers.specs.declared.figure.Thing.TheVariants as thing

-- whether these are the same figure
abbrev pub is_same_figure : Figure → Figure → Bool
is_same_figure one other = figures.eq-value.it one other

-- the object of a kind and number of a partition; a port is none
abbrev pub thing_of : ℕ → ObjectKind → ℕ → Option Thing
thing_of part kind.Buffer number = Some (thing.Buffer part number)
thing_of part kind.Blackboard number = Some (thing.Blackboard part number)
thing_of part kind.Semaphore number = Some (thing.Semaphore part number)
thing_of part kind.Event number = Some (thing.Event part number)
thing_of part kind.Mutex number = Some (thing.Mutex part number)
thing_of part kind.SamplingPort number = None
thing_of part kind.QueuingPort number = None
