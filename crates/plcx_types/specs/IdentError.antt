-- When each error of `Ident::new` comes.
use Rattle.std.specs.Prelude.{◌≡◌, ℕ, List, false, ⊤}
use Rattle.plcx_types.specs.Name.{is_identifier}
use Rattle.plcx_types.specs.declared.ident.IdentError.{IdentError}
use Rattle.plcx_types.specs.declared.ident.IdentError.TheVariants.{NotIdent, NoMemory}

-- no name exactly where the text has not the form of one; want of memory at any time
abbrev pub IdentFails : List ℕ → IdentError → Type 0
IdentFails text NotIdent = is_identifier text ≡ false
IdentFails text NoMemory = ⊤
