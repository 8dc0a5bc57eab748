use Rattle.std.proofs.Common.{◌∙◌, Ok, ap, codes, refl, subst, sym}
use Rattle.std.specs.Prelude.{IsOk}
use Rattle.toml.specs.Data.{get_member}
use Rattle.toml.specs.View.{table_view, items_view}
use Rattle.asked_rules.specs.declared.refusal.RuleKey.TheVariants.{Name}
use Rattle.asked_rules.specs.Keys.{◌>>=◌, Builds, no_more, required}
use Rattle.asked_rules.specs.Memories.{allowed, keeps_under, memory_under, new_name_in, per_in, said_keeps, said_memory}
use Rattle.asked_rules.proofs.Built.{after_count, is_built, memory_named, put_together, stops, third_refused, three}
use Rattle.asked_rules.proofs.memory.memory_under.Goals as goal

pub returns-in_err-per : goal.returns-in_err-per
returns-in_err-per c =
    let keys = table_view c.args.keys.now in
    let above = items_view c.args.above.now in
    let fault = c.in_err-per.field-0.0 in
    let name = required Name (get_member (codes "name") keys) >>= new_name_in above in
    let keeps = keeps_under above keys in
    let per = per_in (get_member (codes "per") keys) in
    let few = ap (λ count. no_more count keys) (sym c.allowed-most.ensures) ∙ sym c.in_ok-no_more.ensures in
    let named = ap (λ reading. reading >>= new_name_in above) c.in_ok-value.ensures ∙ c.in_ok-name.ensures in
    let named_ok : IsOk name = rw named refl in
    stops said_memory c.from_residual-in_err-per.result (memory_under above keys) fault c.from_residual-in_err-per.ensures.1
    (after_count (no_more (allowed keys) keys) (three name keeps per put_together) few
    ∙ third_refused name keeps per put_together fault named_ok (is_built said_keeps c.in_ok-keeps.keeps keeps c.in_ok-keeps.ensures) (sym c.in_err-per.ensures))

pub returns : goal.returns
returns c =
    let keys = table_view c.args.keys.now in
    let above = items_view c.args.above.now in
    let name = required Name (get_member (codes "name") keys) >>= new_name_in above in
    let keeps = keeps_under above keys in
    let per = per_in (get_member (codes "per") keys) in
    let few = ap (λ count. no_more count keys) (sym c.allowed-most.ensures) ∙ sym c.in_ok-no_more.ensures in
    let named = ap (λ reading. reading >>= new_name_in above) c.in_ok-value.ensures ∙ c.in_ok-name.ensures in
    subst (Builds said_memory (Ok c.named.result)) (sym (after_count (no_more (allowed keys) keys) (three name keeps per put_together) few))
    (memory_named c.in_ok-name.name.now c.in_ok-keeps.keeps c.in_ok-per.per name keeps per named c.in_ok-keeps.ensures (sym c.in_ok-per.ensures) c.named.result c.named.ensures)
