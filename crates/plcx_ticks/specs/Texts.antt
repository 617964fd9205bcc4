-- The rows of a run of a resource as a text.
use Rattle.std.specs.Prelude.{◌++◌, ℕ, List, [], ◌∷◌, Option, Some, None, slice_get, codes}
use Rattle.std.specs.Fmt.{decimal}
use Rattle.std.specs.List.{flat_map}
use Rattle.plcx_types.specs.Printed.{printed}
use Rattle.plcx_types.specs.Value.{Value}
use Rattle.plcx_state.specs.declared.layout.Leaf.{Leaf}
use Rattle.plcx_state.specs.Layouts.{Laid, dotted}
use Rattle.plcx_scan.specs.Rows.{shown_leaves}
use Rattle.plcx_scan.specs.Sides.{told}
use Rattle.plcx_scan.specs.Texts.{word}
use Rattle.plcx_tasks.specs.declared.planning.Instance.{Instance}
use Rattle.plcx_tasks.specs.declared.planning.TaskPlan.{TaskPlan}
use Rattle.plcx_tasks.specs.declared.rows.TaskRow.{TaskRow}

-- the name of an instance, if it is there
abbrev pub name_in : Option Instance → List ℕ
name_in None = []
name_in (Some x) = x.name

-- the leaves of a layout, if it is there
abbrev pub leaves_in : Option Laid → List Leaf
leaves_in None = []
leaves_in (Some l) = l.leaves

-- the value of a leaf, behind a comma
abbrev pub named_value : Leaf → Value → List ℕ
named_value leaf v = codes "," ++ (dotted leaf.path ++ (codes "=" ++ printed v))

-- the values of leaves, in order
abbrev pub named_values : List Leaf → List Value → List ℕ
named_values [] values = []
named_values (leaf ∷ leaves) [] = []
named_values (leaf ∷ leaves) (v ∷ values) = named_value leaf v ++ named_values leaves values

-- the front of a row's line: the number of the event and the name of the instance
abbrev pub row_front : TaskPlan → TaskRow → List ℕ
row_front plan row = decimal row.event ++ (codes "," ++ (name_in (slice_get plan.instances row.instance) ++ codes ","))

-- the line of a row: behind its front, what is told of the event, and the shown values
abbrev pub row_line : TaskPlan → List Laid → TaskRow → List ℕ
row_line plan lays row = row_front plan row ++ (word (told row.outcome) ++ (named_values (shown_leaves (leaves_in (slice_get lays row.instance))) row.values ++ codes "\n"))

-- a line for each row, behind a header
abbrev pub task_text : TaskPlan → List Laid → List TaskRow → List ℕ
task_text plan lays rows = codes "event,instance,result\n" ++ flat_map (row_line plan lays) rows
