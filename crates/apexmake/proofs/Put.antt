-- Files that a folder has received, one after another.
use Rattle.std.proofs.Common.{◌≡◌, ◌+◌, ◌∙◌, ℕ, zero, suc, List, [], ◌∷◌, ◌++◌, Option, Some, None, map, take, arith, refl, sym, ap, append_assoc}
use Rattle.std.proofs.lemmas.List.{append-nil}
use Rattle.std.specs.Prelude.{codes, decimal, slice_get}
use Rattle.recording_maker.specs.declared.made.MadeRun.{MadeRun}
use Rattle.apexmake.specs.Received.{NamedText, file, files_of, recordings_from, with_file, with_files}

-- one file, several, and two more
in_turn : (known : Option (List NamedText)) (first_name first_text : List ℕ) (several : List NamedText) (next_name next_text last_name last_text : List ℕ)
    → with_file (with_file (with_files (with_file known first_name first_text) several) next_name next_text) last_name last_text
    ≡ with_files known (file first_name first_text ∷ several ++ file next_name next_text ∷ file last_name last_text ∷ [])
in_turn None first_name first_text several next_name next_text last_name last_text = refl
in_turn (Some files) first_name first_text several next_name next_text last_name last_text =
    let first : NamedText = file first_name first_text in
    let next : NamedText = file next_name next_text in
    let last : NamedText = file last_name last_text in
    ap Some (append_assoc ((files ++ first ∷ []) ++ several) (next ∷ []) (last ∷ []) ∙ append_assoc (files ++ first ∷ []) several (next ∷ last ∷ []) ∙ append_assoc files (first ∷ []) (several ++ next ∷ last ∷ []))

-- a folder that has received the configuration, the recordings, the certificate and the line has received the files of the run
pub all_put : (before first second third after : Option (List NamedText)) (config : List ℕ) (made : MadeRun)
    → first ≡ with_file before (codes "config.toml") config
    → second ≡ with_files first (recordings_from 0 (map (λ recording. recording.items) made.recordings.items))
    → third ≡ with_file second (codes "order.csv") made.certificate.items
    → after ≡ with_file third (codes "expected.txt") made.line.items
    → after ≡ with_files before (files_of config made)
all_put before first second third after config made configured recorded ordered expected =
    let several : List NamedText = recordings_from 0 (map (λ recording. recording.items) made.recordings.items) in
    expected
    ∙ ap (λ known. with_file known (codes "expected.txt") made.line.items) (ordered ∙ ap (λ known. with_file known (codes "order.csv") made.certificate.items) (recorded ∙ ap (λ known. with_files known several) configured))
    ∙ in_turn before (codes "config.toml") config several (codes "order.csv") made.certificate.items (codes "expected.txt") made.line.items

-- before the first file
pub none_put : (known : Option (List NamedText)) → known ≡ with_files known []
none_put None = refl
none_put (Some files) = ap Some (sym (append-nil files))

-- the file of the recording of a core
core_file : ℕ → List ℕ → NamedText
core_file core text = file (codes "core" ++ decimal core ++ codes ".csv") text

-- the files up to a recording and its own
file_by_file : {A : Type 0} (text : A → List ℕ) (first : ℕ) (recordings : List A) (index : ℕ) (one : A) → slice_get recordings index ≡ Some one
    → recordings_from first (map text (take (suc index) recordings)) ≡ recordings_from first (map text (take index recordings)) ++ core_file (first + index) (text one) ∷ []
unfolding core_file
file_by_file {A} text first [] index one is = let none : ◌≡◌ {A = Option A} None (Some one) = is in cc
file_by_file {A} text first (other ∷ recordings) zero one is =
    let same : other ≡ one = cc in
    let number : first ≡ first + 0 = omega arith in
    ap (λ (recording : A). core_file first (text recording) ∷ []) same ∙ ap (λ core. core_file core (text one) ∷ []) number
file_by_file {A} text first (other ∷ recordings) (suc index) one is =
    let number : suc first + index ≡ first + suc index = omega arith in
    ap (λ list. core_file first (text other) ∷ list)
    (file_by_file text (suc first) recordings index one is ∙ ap (λ core. recordings_from (suc first) (map text (take index recordings)) ++ core_file core (text one) ∷ []) number)

-- several files and one more
one_more : (known : Option (List NamedText)) (files : List NamedText) (name text : List ℕ) → with_file (with_files known files) name text ≡ with_files known (files ++ file name text ∷ [])
one_more None files name text = refl
one_more (Some first) files name text = ap Some (append_assoc first files (file name text ∷ []))

-- a folder that has received the recordings before one, and then that one
pub recording_put : {A : Type 0} (text : A → List ℕ) (before now after : Option (List NamedText)) (recordings : List A) (index : ℕ) (one : A) → slice_get recordings index ≡ Some one
    → now ≡ with_files before (recordings_from 0 (map text (take index recordings)))
    → after ≡ with_file now (codes "core" ++ decimal index ++ codes ".csv") (text one)
    → after ≡ with_files before (recordings_from 0 (map text (take (index + 1) recordings)))
unfolding core_file
recording_put {A} text before now after recordings index one is so_far put =
    let up_to : List NamedText = recordings_from 0 (map text (take index recordings)) in
    let number : index ≡ 0 + index = omega arith in
    let next : suc index ≡ index + 1 = omega arith in
    put
    ∙ ap (λ known. with_file known (codes "core" ++ decimal index ++ codes ".csv") (text one)) so_far
    ∙ one_more before up_to (codes "core" ++ decimal index ++ codes ".csv") (text one)
    ∙ ap (λ core. with_files before (up_to ++ core_file core (text one) ∷ [])) number
    ∙ ap (with_files before) (sym (file_by_file text 0 recordings index one is))
    ∙ ap (λ count. with_files before (recordings_from 0 (map text (take count recordings)))) next
