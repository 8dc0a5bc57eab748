-- Where the names of files and folders lead. A place is given by the parts of its name from the root of all files.
use Rattle.std.specs.Prelude.{ℕ, ◌||◌, ◌==◌, ◌-◌, List, [], ◌∷◌, ◌++◌, Option, Some, None, codes, length, take, drop, nat_eq, option_map, string_bytes, if◌then◌else◌}
use Rattle.std.specs.List.{flat_map, slice_split, starts_with}
use Rattle.std.specs.Str.{bytes_eq}
use Rattle.check_result.specs.declared.source_root.SourceRoot.{SourceRoot}
use Rattle.check_result.specs.declared.source_root.SourceRoot.TheVariants.{Known, Unknown}

-- the parts of a name, between its slashes
abbrev pub parts_of : List ℕ → List (List ℕ)
parts_of name = slice_split (λ byte. byte == 47) name

-- where a part of a name leads from a place: no part and a full stop lead nowhere, and two full stops to the folder above
abbrev pub step : List (List ℕ) → List ℕ → List (List ℕ)
step place part =
    if bytes_eq part [] || bytes_eq part (codes ".")
    then place
    else if bytes_eq part (codes "..") then take (length place - 1) place else place ++ part ∷ []

-- where parts of a name lead from a place, one after another
abbrev pub walk : List (List ℕ) → List (List ℕ) → List (List ℕ)
walk place [] = place
walk place (part ∷ parts) = walk (step place part) parts

-- where an absolute name leads
abbrev pub place_of : List ℕ → List (List ℕ)
place_of name = walk [] (parts_of name)

-- the absolute name of a place, without a slash at its end
abbrev pub name_of : List (List ℕ) → List ℕ
name_of place = flat_map (λ part. 47 ∷ part) place

-- the absolute name of what has this name in a folder
abbrev pub absolute_name : List ℕ → List ℕ → List ℕ
absolute_name folder name =
    if starts_with nat_eq name (codes "/") then name_of (place_of name) else name_of (walk (place_of folder) (parts_of name))

-- what follows the slash after the name of a folder, or the whole name if no slash follows
abbrev pub after_slash : List ℕ → List ℕ → List ℕ
after_slash whole [] = []
after_slash whole (byte ∷ rest) = if byte == 47 then rest else whole

-- an absolute name from this folder: the part of it below the folder, or the name itself if it is not below
abbrev pub name_below : List ℕ → List ℕ → List ℕ
name_below root whole = if starts_with nat_eq whole root then after_slash whole (drop (length root) whole) else whole

-- the absolute names of two folders
pub record Folders : Type 0 where
  -- the folder in which the program runs
  pub here : List ℕ
  -- the folder from which files are named
  pub root : List ℕ

-- the folders that are known
abbrev pub folders_in : SourceRoot → Option Folders
folders_in (Known here root) = Some (record { here = string_bytes here; root = string_bytes root })
folders_in Unknown = None

-- the absolute name of the folder of this name for a program that runs in this folder, if that is known
abbrev pub root_for : Option (List ℕ) → List ℕ → Option (List ℕ)
root_for here name = option_map (λ here. absolute_name here name) here

-- the absolute name of the folder from which files are named, with a slash at its end
abbrev pub root_name : Option Folders → Option (List ℕ)
root_name folders = option_map (λ folders. folders.root ++ codes "/") folders

-- how a file is named: from the folder by its absolute name; if the folder in which the program runs is not known, a name that is not absolute
-- is from there, and stays as it is
abbrev pub name_from : Option Folders → List ℕ → List ℕ
name_from None file = if starts_with nat_eq file (codes "/") then name_of (place_of file) else file
name_from (Some folders) file = name_below folders.root (absolute_name folders.here file)
