-- What a folder says of the files in it, and what it is to open the files of a run in their roles.
use Rattle.std.specs.Prelude.{◌⊎◌, ⊤, ℕ, List, Option, Some, None, Any, IsSomeAnd, map, option_map, string_bytes}
use Rattle.std.specs.List.{AllZip}
use Rattle.answer_words.specs.declared.names.InputNames.{InputNames}

-- what contracts see of a folder whose files, once opened, are of this type
pub record FolderView (F : Type 0) : Type 1 where
  -- these bytes are the text in the file of this name, or the first bytes of a longer one, enough to refuse it
  pub is_text : List ℕ → List ℕ → Type 0
  -- this is the file of this name, opened to be read
  pub is_file : List ℕ → F → Type 0
  -- the file of this name cannot be opened, or its text cannot be read
  pub refuses : List ℕ → Type 0

module _ {F : Type 0} (facts : FolderView F) where
  -- the rules are the text in the file that is named, and there are none if no file is named
  abbrev pub AreRulesOf : Option (List ℕ) → Option (List ℕ) → Type 0
  AreRulesOf None None = ⊤
  AreRulesOf None (Some rules) = ⊥
  AreRulesOf (Some name) None = ⊥
  AreRulesOf (Some name) (Some rules) = facts.is_text name rules

  -- sources, each of which reads one file, read the files of these names: one source for each name, in their order
  abbrev pub ReadFiles : {S : Type 0} → (S → F) → List (List ℕ) → List S → Type 0
  ReadFiles file_of names sources = AllZip (λ name source. facts.is_file name (file_of source)) names sources

  -- each file was opened in its role: the configuration and the rules are the texts in the files that are named as such, and the order and
  -- the recordings are read from theirs, core 0 first
  pub record AreInRoles {S : Type 0} (file_of : S → F) (names : InputNames) (config : List ℕ) (rules : Option (List ℕ)) (order : S) (cores : List S) : Type 0 where
    pub as_config : facts.is_text (string_bytes names.config) config
    pub as_rules : AreRulesOf (option_map string_bytes names.rules) rules
    pub as_order : facts.is_file (string_bytes names.order) (file_of order)
    pub as_cores : ReadFiles file_of (map string_bytes names.cores.items) cores

  -- one of the files that are named is refused
  abbrev pub RefusesOne : InputNames → Type 0
  RefusesOne names =
      facts.refuses (string_bytes names.config)
      ⊎ IsSomeAnd (option_map string_bytes names.rules) facts.refuses
      ⊎ facts.refuses (string_bytes names.order)
      ⊎ Any (λ name. facts.refuses (string_bytes name)) names.cores.items
