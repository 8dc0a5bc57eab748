-- A text that is read as a table, and one that is none.
use Rattle.std.proofs.Common.{◌≡◌, ◌≤◌, ℕ, List, length, Err, Bool, true, false, Some, None, refl, nat_lt, arith}
use Rattle.std.specs.Prelude.{IsUtf8, if◌then◌else◌}
use Rattle.std.specs.Str.{is_utf8}
use Rattle.std.proofs.lemmas.Str.{is_utf8-from_IsUtf8, IsUtf8-from_is_utf8}
use Rattle.std.proofs.lemmas.Bool.Decides.{nat_tests}
use Rattle.toml.specs.Data.{Members}
use Rattle.toml.specs.Parse.{parse_document}
use Rattle.apex_types.specs.declared.limits.TheConstants.{LONGEST_CONFIGURATION}
use Rattle.module_config.specs.declared.fault.ConfigFault.TheVariants.{NotToml}
use Rattle.module_config.specs.Places.{nowhere}
use Rattle.module_config.specs.Reading.{document_of, walk_in, walk_of}
use Rattle.module_config.specs.Walk.{walk}

-- a text that is not too long is what it says as a document
pub short : (text : List ℕ) → length text ≤ LONGEST_CONFIGURATION → walk_of text ≡ walk_in (document_of text)
short text few = let e : nat_lt LONGEST_CONFIGURATION (length text) ≡ false = grind (arith, nat_tests) in rw e

-- a text that is read as a table configures what the table does
pub table_text : (text : List ℕ) (keys : Members) → length text ≤ LONGEST_CONFIGURATION → IsUtf8 text → parse_document text ≡ Some keys → walk_of text ≡ walk keys
table_text text keys few utf8 parsed = rw (short text few, is_utf8-from_IsUtf8 text utf8, parsed)

-- a text that is no table is not TOML
pub no_table : (text : List ℕ) → length text ≤ LONGEST_CONFIGURATION → (IsUtf8 text → parse_document text ≡ None) → walk_of text ≡ Err (nowhere NotToml)
no_table text few refused = rw (short text few) (by (is_utf8 text) refl)
  where
    by : (b : Bool) → is_utf8 text ≡ b → walk_in (if b then parse_document text else None) ≡ Err (nowhere NotToml)
    by true is = rw (refused (IsUtf8-from_is_utf8 text is))
    by false is = refl
