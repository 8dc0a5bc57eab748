use Rattle.std.proofs.Common.{◌≡◌, ◌+◌, ◌∙◌, ℕ, List, Bool, drop, sym, ap, subst}
use Rattle.std.specs.Prelude.{if◌then◌else◌, option_map}
use Rattle.std.specs.Io.KnownBytes.{Keeps, prepend_known}
use Rattle.std.proofs.lemmas.List.{drop-drop}
use Rattle.csv.specs.Reading.{strip_bom}
use Rattle.csv_rows.specs.Text.{mark_length, unread_of}
use Rattle.csv_rows.proofs.Texts.{mark_seen, strip_stays}
use Rattle.csv_rows.proofs.ahead.Ahead.begin.Goals as goal

pub returns-clause-keeps : goal.returns-clause-keeps
returns-clause-keeps g c =
    let known = g.R.TextSource.remaining c.front.new.self.source in
    let bytes = c.front.new.self.bytes.items in
    let at = c.front.new.self.at in
    let before = unread_of g.R.TextSource.remaining c.args.self.now in
    let seen = mark_seen (drop at bytes) known c.in_ok-front.field-0 c.in_ok-front.ensures.front.0 c.in_ok-front.ensures.front.1 in
    let length_is : c.mark_length.result ≡ mark_length (drop at bytes) = c.mark_length.ensures.length ∙ ap mark_length c.unread.ensures in
    let rest : drop (mark_length (drop at bytes)) (drop at bytes) ≡ drop (at + c.mark_length.result) bytes =
    ap (λ n. drop n (drop at bytes)) (sym length_is) ∙ drop-drop c.mark_length.result at bytes in
    let P : List ℕ → Type 0 = λ left. Keeps (option_map strip_bom before) (prepend_known left known) in
    let Q : Bool → Type 0 = λ begun. Keeps (if begun then before else option_map strip_bom before) (prepend_known (drop (at + c.mark_length.result) bytes) known) in
    subst Q (sym c.if-self.false) (subst P rest (strip_stays _ _ _ c.in_ok-front.ensures.keeps seen))
