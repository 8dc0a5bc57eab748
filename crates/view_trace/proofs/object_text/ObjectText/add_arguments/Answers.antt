use Rattle.std.specs.Prelude.{◌++◌, codes}
use Rattle.view_trace.specs.ObjectText.{text_of}
use Rattle.view_trace.specs.Parts.{numbered}
use Rattle.view_trace.proofs.Parts.{then_put}
use Rattle.view_trace.proofs.object_text.ObjectText.add_arguments.Goals as goal

pub returns-in_ok-add_number-in-Priority : goal.returns-in_ok-add_number-in-Priority
returns-in_ok-add_number-in-Priority c =
    rw c.in-Priority.is
    (then_put c.put.result (text_of c.args.self.now) (text_of c.add_number.new.self) (text_of c.put.new.self) (numbered (codes ",\"args\":{\"priority\":") c.in-Priority.priority) (codes "}}")
    c.in_ok-add_number-in-Priority.ensures c.put.ensures)

pub returns-in_ok-add_number-in-Held-2 : goal.returns-in_ok-add_number-in-Held-2
returns-in_ok-add_number-in-Held-2 c =
    let first = numbered (codes ",\"args\":{\"held\":") c.in-Held.held in
    let second = numbered (codes ",\"waiting\":") c.in-Held.waiting in
    let last =
    then_put c.put-in-Held.result (text_of c.add_number-in-Held.new.self) (text_of c.add_number-in-Held-2.new.self) (text_of c.put-in-Held.new.self) second (codes "}}")
    c.in_ok-add_number-in-Held-2.ensures c.put-in-Held.ensures in
    rw c.in-Held.is
    (then_put c.put-in-Held.result (text_of c.args.self.now) (text_of c.add_number-in-Held.new.self) (text_of c.put-in-Held.new.self) first (second ++ codes "}}")
    c.in_ok-add_number-in-Held.ensures last)
