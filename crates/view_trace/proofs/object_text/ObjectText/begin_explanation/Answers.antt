use Rattle.std.specs.Prelude.{codes}
use Rattle.view_trace.specs.ObjectText.{text_of}
use Rattle.view_trace.specs.Parts.{numbered}
use Rattle.view_trace.proofs.Parts.{then_put}
use Rattle.view_trace.proofs.object_text.ObjectText.begin_explanation.Goals as goal

pub returns-in_ok-add_number-in-Some : goal.returns-in_ok-add_number-in-Some
returns-in_ok-add_number-in-Some c =
    rw c.in-Some.is
    (then_put c.put.result (text_of c.args.self.now) (text_of c.add_number.new.self) (text_of c.put.new.self) (numbered (codes ",\"args\":{\"place\":") c.in-Some.place) (codes ",\"explanation\":\"")
    c.in_ok-add_number-in-Some.ensures c.put.ensures)

pub returns-in-None : goal.returns-in-None
returns-in-None c = rw c.in-None.is c.put-in-None.ensures
