use Rattle.std.proofs.Common.{◌≡◌, Option, Some, None, true, not, refl, ap, ◌∙◌}
use Rattle.std.specs.Prelude.{is_some, option_map}
use Rattle.toml.specs.Data.{Data, get_member}
use Rattle.toml.specs.View.{table_view}
use Rattle.module_config.specs.declared.place.ConfigKey.TheVariants as key
use Rattle.module_config.specs.ChannelWalk.{ends_if_there_at, some_ends_at}
use Rattle.module_config.specs.Places.{text_of}
use Rattle.module_config.proofs.ends.destinations_if_there.Goals as goal

-- a list that is there is read as one that must be there
ends_there : {A : Type 0} (see : A → Data) (found : Option A) (value : Option Data) → option_map see found ≡ value → is_some found ≡ true → ends_if_there_at value ≡ some_ends_at value
ends_there see None value is there = cc
ends_there see (Some found) value is there = rw (← is) refl

pub returns : goal.returns
returns c =
    let found = rw c.text.ensures at c.member.ensures in
    rw (ends_there _ c.member.result (get_member (text_of key.Destinations) (table_view c.args.keys.now)) found (c.is_none.ensures ∙ ap not c.if-is_none.false)) c.destinations_under.ensures
