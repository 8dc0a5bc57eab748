-- The files of a run that is made.
use Rattle.std.specs.Prelude.{ℕ, suc, List, [], ◌∷◌, ◌++◌, Option, codes, decimal, map, option_map}
use Rattle.recording_maker.specs.declared.made.MadeRun.{MadeRun}

-- a file, by its name and its text
pub record NamedText : Type 0 where
  pub name : List ℕ
  pub text : List ℕ

abbrev pub file : List ℕ → List ℕ → NamedText
file name text = record { name = name; text = text }

-- the files that a folder has received, after one more, if it knows them
abbrev pub with_file : Option (List NamedText) → List ℕ → List ℕ → Option (List NamedText)
with_file known name text = option_map (λ files. files ++ file name text ∷ []) known

-- the same after several more
abbrev pub with_files : Option (List NamedText) → List NamedText → Option (List NamedText)
with_files known more = option_map (λ files. files ++ more) known

-- the files of recordings, from this core on
abbrev pub recordings_from : ℕ → List (List ℕ) → List NamedText
recordings_from core [] = []
recordings_from core (text ∷ texts) = file (codes "core" ++ decimal core ++ codes ".csv") text ∷ recordings_from (suc core) texts

-- the files of a run over this configuration: the configuration, a recording for each core, the certificate, and the line that a check of
-- them must print
abbrev pub files_of : List ℕ → MadeRun → List NamedText
files_of config made =
    file (codes "config.toml") config
    ∷ recordings_from 0 (map (λ recording. recording.items) made.recordings.items)
    ++ file (codes "order.csv") made.certificate.items
    ∷ file (codes "expected.txt") made.line.items
    ∷ []
