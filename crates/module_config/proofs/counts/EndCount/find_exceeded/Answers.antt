use Rattle.std.proofs.Common.{◌≡◌, Some, None, sym, ◌∙◌, ap, option_map}
use Rattle.std.specs.List.{find}
use Rattle.std.specs.Option.{option_or}
use Rattle.std.proofs.lemmas.List.Folds.{find-append}
use Rattle.module_config.specs.Ends.{ends_of, is_exceeded, queuing_ends, sampling_ends}
use Rattle.module_config.proofs.counts.EndCount.find_exceeded.Goals as goal

pub returns-in-Some : goal.returns-in-Some
returns-in-Some c =
    let self = c.args.self.now in
    let test = is_exceeded self.likeness self.most (ends_of self.sampling.now self.queuing.now) in
    let sampling = sampling_ends self.sampling.now in
    let queuing = queuing_ends self.queuing.now in
    let first : find test sampling ≡ Some c.in-Some.end.now = sym c.in-Some.ensures in
    sym (find-append test sampling queuing ∙ ap (λ one. option_or one (find test queuing)) first)

pub returns-in-None : goal.returns-in-None
returns-in-None c =
    let self = c.args.self.now in
    let test = is_exceeded self.likeness self.most (ends_of self.sampling.now self.queuing.now) in
    let sampling = sampling_ends self.sampling.now in
    let queuing = queuing_ends self.queuing.now in
    let none : find test sampling ≡ None = sym c.find_exceeded_in.ensures ∙ ap (option_map (λ end. end.now)) c.in-None.is in
    c.find_exceeded_in-in-None.ensures ∙ sym (find-append test sampling queuing ∙ ap (λ one. option_or one (find test queuing)) none)
