-- What a sink takes of a picture or a page.
use Rattle.std.specs.Prelude.{◌≡◌, ◌<◌, ◌++◌, ℕ, List, Option, Result, Ok, Err, codes}
use Rattle.sink.specs.Written.{IsWritten, IsCut}
use Rattle.sink.specs.Markup.{IsMarkup}
use Rattle.view_page.specs.declared.fault.PageFault.{PageFault}
use Rattle.view_page.specs.declared.fault.PageFault.TheVariants.{Memory, Unwritten}

-- the bytes that a sink has taken, if it knows them, and how often it has failed
pub record Taken : Type 0 where
  pub bytes : Option (List ℕ)
  pub failures : ℕ

abbrev pub taken_by : {W : Type 0} → (W → Option (List ℕ)) → (W → ℕ) → W → Taken
taken_by bytes failures sink = record { bytes = bytes sink; failures = failures sink }

-- markup went out and nothing else, and the sink did not fail
pub record Sends (before after : Taken) : Type 0 where
  pub sent : List ℕ
  pub is_markup : IsMarkup sent
  pub is_written : IsWritten before.bytes sent after.bytes
  pub has_not_failed : after.failures ≡ before.failures

-- the first bytes of markup went out and no others, since the sink failed
pub record SendsFront (before after : Taken) : Type 0 where
  pub whole : List ℕ
  pub is_markup : IsMarkup whole
  pub is_cut : IsCut before.bytes whole after.bytes
  pub has_failed : before.failures < after.failures

-- how writing ends: markup went out, also if memory was refused afterwards; or the sink failed within markup
abbrev pub Ends : Result (Unit {0}) PageFault → Taken → Taken → Type 0
Ends (Ok done) before after = Sends before after
Ends (Err Memory) before after = Sends before after
Ends (Err Unwritten) before after = SendsFront before after

-- what went out begins with one text and ends with another
pub record IsBetween (first last : List ℕ) (before after : Option (List ℕ)) : Type 0 where
  pub inside : List ℕ
  pub is_written : IsWritten before (first ++ (inside ++ last)) after

-- how a page and a picture by itself begin and end
abbrev pub page_begins : List ℕ
page_begins = codes "<!DOCTYPE html>\n"

abbrev pub page_ends : List ℕ
page_ends = codes "</html>\n"

abbrev pub svg_begins : List ℕ
svg_begins = codes "<svg "

abbrev pub svg_ends : List ℕ
svg_ends = codes "</svg>\n"
