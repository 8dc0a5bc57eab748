use Rattle.std.proofs.Common.{◌∙◌, List, ap, length, map, subst}
use Rattle.std.proofs.lemmas.List.{length-map}
use Rattle.std.specs.Option.{option_map}
use Rattle.apex_types.specs.declared.record.Pair.{Pair}
use Rattle.order_cert.specs.Order.{IsPrefixOfLawful}
use Rattle.order_run.specs.Left.{Lefts}
use Rattle.order_run.specs.Proposal.{HaveGoneOut, ListsFirst}
use Rattle.order_run.specs.Rows.{rows_of}
use Rattle.record_read.specs.Row.{records_of}
use Rattle.order_tip.proofs.Opened.{nothing_gone, opened_texts}
use Rattle.order_tip.proofs.proposing.propose.Goals as goal

pub propose_with-requires : goal.propose_with-requires
propose_with-requires g c = ap length c.in-Ok.ensures ∙ length-map c.args.sources.items _ ∙ c.requires

pub returns-in-Ok : goal.returns-in-Ok
returns-in-Ok g c =
    let cores = c.args.config.now.cores in
    let before = g.W.Sink.bytes c.args.out.now in
    let after = g.W.Sink.bytes c.propose_with.new.out in
    record {
      prefix = subst (λ (lefts : Lefts). (pairs : List Pair) × IsPrefixOfLawful cores pairs × ListsFirst cores lefts pairs × HaveGoneOut before (rows_of pairs) c.propose_with.result after)
          c.in-Ok.ensures c.propose_with.ensures.prefix;
      proposed = λ texts known. c.propose_with.ensures.proposed texts (c.in-Ok.ensures ∙ opened_texts g.R.TextSource.remaining c.args.sources.items texts known);
    }

pub returns-in-Err : goal.returns-in-Err
returns-in-Err g c = record {
  prefix = nothing_gone c.args.config.now.cores (map (λ source. option_map records_of (g.R.TextSource.remaining source)) c.args.sources.items) (g.W.Sink.bytes c.args.out.now);
  proposed = λ texts known. tt;
}
