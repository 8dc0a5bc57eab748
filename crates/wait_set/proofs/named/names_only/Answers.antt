use Rattle.std.proofs.Common.{sym, ◌∙◌, true≢false}
use Rattle.wait_set.proofs.WaiterLists.{empty-names, names-empty, names-one, none-named, one-named, several-named}
use Rattle.wait_set.proofs.named.names_only.Goals as goal

pub returns-in-len1 : goal.returns-in-len1
returns-in-len1 c =
    rw c.in-Some.is (
      λ is. names-one c.in-Some.who c.only-item.result c.args.named.now c.in-len1.len_at_least c.in-len1.len_below c.only-item.is (sym c.eq.ensures ∙ is),
      λ exact. c.eq.ensures ∙ one-named c.in-Some.who c.only-item.result c.args.named.now c.in-len1.len_at_least c.only-item.is exact,
    )

pub returns-in_default : goal.returns-in_default
returns-in_default c =
    rw c.in-Some.is (λ is. absurd (true≢false (sym is)), λ exact. absurd (none-named c.in-Some.who c.args.named.now c.in_default.len_below exact))

pub returns-in_default-2 : goal.returns-in_default-2
returns-in_default-2 c =
    rw c.in-Some.is
    (λ is. absurd (true≢false (sym is)), λ exact. absurd (several-named c.in-Some.who c.args.named.now c.in_default.len_at_least c.requires exact))

pub returns-in-None : goal.returns-in-None
returns-in-None c =
    rw c.in-None.is (λ is. empty-names c.args.named.now (sym c.is_empty.ensures ∙ is), λ exact. c.is_empty.ensures ∙ names-empty c.args.named.now exact)
