use Rattle.apexmake.proofs.run.Goals as goal

pub returns : goal.returns
returns g c = (c.end_of-ending.result, c.end_of-ending.ensures, c.status.ensures)
