-- Tables of names, and of what elements have numbers for.
use Rattle.std.specs.Prelude.{ℕ, List, Option}
use Rattle.plcx_meaning.specs.Base.{Memory, AtEdge, AtOutput, same_memory}
use Rattle.plcx_rules.specs.Texts.{same_name}
use Rattle.plcx_tables.specs.declared.keys.Key.{Key}
use Rattle.plcx_tables.specs.declared.keys.Key.TheVariants.{Edge, Output}
use Rattle.plcx_tables.specs.declared.names.Name.{Name}
use Rattle.plcx_tables.specs.Tables.{Tells}

-- the text of a name
abbrev pub text_of : Name → List ℕ
text_of n = n.text.now

-- what a key stands for, as elements remember it
abbrev pub memory_of : Key → Memory
memory_of (Edge id) = AtEdge id
memory_of (Output id name) = AtOutput id name.text.now

-- the table of names at so many places
abbrev pub NamesTold : List (Name × ℕ) → ℕ → List (Option (List ℕ)) → Type 0
NamesTold entries count texts = Tells text_of same_name entries count texts

-- the table of memories at so many places
abbrev pub MemoriesTold : List (Key × ℕ) → ℕ → List (Option Memory) → Type 0
MemoriesTold entries count memories = Tells memory_of same_memory entries count memories
