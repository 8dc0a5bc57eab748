use Rattle.sarif_report.proofs.Escaped.{put_together, text_encoded}
use Rattle.sarif_report.proofs.uri.uri_of.Goals as goal

pub returns : goal.returns
returns c = put_together c.in_ok-append_to.ensures.ok c.in_ok-uri.ensures.ok c.scheme_of.ensures c.utf8_percent_encode.ensures.text (text_encoded c.args.file.now)
