use Rattle.std.proofs.Common.{◌≤◌, ◌+◌, reverse}
use Rattle.view_page.specs.Strips.{Cover}
use Rattle.view_picture.specs.Records.{record_count}
use Rattle.view_page.proofs.layout.strips_of.Given as goal

-- the strips so far have the records from `to` on
abbrev pub invariant-loop-index : goal.invariant-loop-index
invariant-loop-index l = record {
  reach : record_count l.picture ≤ l.to + l.index;
  cover : Cover (reverse l.strips.items) l.to (record_count l.picture);
}
