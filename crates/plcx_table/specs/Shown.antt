-- The table of the code, as the table of the definitions.
use Rattle.plcx_table.specs.declared.table.When as code
use Rattle.plcx_table.specs.declared.table.When.TheVariants as when
use Rattle.plcx_table.specs.declared.table.Child as coded
use Rattle.plcx_table.specs.declared.table.Field as fielded
use Rattle.plcx_table.specs.Table.{When, Always, Has, HasText, Child, Field}

-- where a child is meant
abbrev pub shown_when : code.When → When
shown_when when.Always = Always
shown_when (when.Has name value) = Has name.now value.now
shown_when when.HasText = HasText

-- a child of the table
abbrev pub shown_child : coded.Child → Child
shown_child c = record { name = c.name.now; when = shown_when c.when; often = c.often; fate = c.fate }

-- an attribute of the table
abbrev pub shown_field : fielded.Field → Field
shown_field f = record { name = f.name.now; required = f.required; form = f.form }
