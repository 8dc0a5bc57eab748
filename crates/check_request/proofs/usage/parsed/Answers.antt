-- The parser's own account of the words.
use Rattle.std.proofs.Common.{◌∙◌, map, string_bytes, subst, sym}
use Rattle.std.specs.Prelude.{IsTrue}
use Rattle.clap.specs.Takes.{takes}
use Rattle.clap.specs.Words.{App}
use Rattle.check_request.proofs.Requested.{found_is}
use Rattle.check_request.proofs.usage.parsed.Goals as goal

pub returns-in-Ok-try_get_matches_from-clause-found : goal.returns-in-Ok-try_get_matches_from-clause-found
returns-in-Ok-try_get_matches_from-clause-found c =
    found_is c.in-Ok.command _ c.in-Ok-try_get_matches_from.matches c.in-Ok.ensures c.in-Ok-try_get_matches_from.ensures.matches

pub returns : goal.returns
returns c = record {
  found = tt;
  refused = λ usage passes.
      c.in_default-kind.not-OutOfMemory (c.kind.ensures ∙ c.in-Err.ensures.passes (subst (λ (app : App). IsTrue (takes app (map string_bytes c.args.words.now))) (sym c.in-Ok.ensures) passes));
}
