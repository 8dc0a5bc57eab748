-- The text of events while it is written.
use Rattle.std.specs.Prelude.{ℕ, List}
use Rattle.view_trace.specs.declared.object_text.ObjectText.{ObjectText}

-- the text so far
abbrev pub text_of : ObjectText → List ℕ
text_of json = json.text.items
