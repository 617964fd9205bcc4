-- What is to be written: a whole output, or the line of a refusal.
use Rattle.std.specs.Prelude.{ℕ, List, [], ◌∷◌, ◌++◌, Option, Some, None, codes}
use Rattle.std.specs.Fmt.{decimal}
use Rattle.plcx_model.specs.declared.broken.Broken as model
use Rattle.plcx_model.specs.declared.broken.Place.{Place}
use Rattle.plcx_model.specs.declared.broken.Place.TheVariants.{Byte, Element}
use Rattle.plcx_text_file.specs.declared.broken.BrokenText.{BrokenText}
use Rattle.plcx_text_file.specs.declared.broken.TextRule.{TextRule}
use Rattle.plcx_text_file.specs.declared.broken.TextRule.TheVariants.{Length, Lex, Syntax, Depth, Name, Types, Recursion, Literal}
use Rattle.plcx_plan.specs.declared.condition.TaskKind.{TaskKind}
use Rattle.plcx_plan.specs.declared.condition.TaskKind.TheVariants as task
use Rattle.plcx_command.specs.declared.line.ProjectFile.{ProjectFile}
use Rattle.plcx_command.specs.declared.line.ProjectFile.TheVariants.{First, New}
use Rattle.plcx_command.specs.declared.status.Refused.{Refused}
use Rattle.plcx_command.specs.declared.status.Refused.TheVariants.{Broken, Usage, ReadFault, NoMemory, NoProgram}

pub data Answer : Type 0 where
  output : List ℕ → Answer
  refusal : Refused → List ℕ → Answer

abbrev pub line : List ℕ → List ℕ
line text = codes "plcx: " ++ (text ++ 10 ∷ [])

-- what `check` writes for a file that is accepted
abbrev pub ok_line : List ℕ
ok_line = codes "ok" ++ 10 ∷ []

abbrev pub ok_answer : Answer
ok_answer = output ok_line

abbrev pub usage_line : List ℕ
usage_line = line (codes "usage: plcx ACTION FILE [EVENTS] [--program NAME] [--turns N] [--retain FILE]")

abbrev pub usage_answer : Answer
usage_answer = refusal Usage usage_line

abbrev pub memory_line : List ℕ
memory_line = line (codes "no memory")

abbrev pub memory_answer : Answer
memory_answer = refusal NoMemory memory_line

abbrev pub read_line : List ℕ → List ℕ
read_line name = codes "plcx: cannot read " ++ (name ++ 10 ∷ [])

abbrev pub read_answer : List ℕ → Answer
read_answer name = refusal ReadFault (read_line name)

abbrev pub write_line : List ℕ
write_line = line (codes "cannot write")

-- where a rule is broken, as it is told
abbrev pub place_words : Place → List ℕ
place_words (Byte at) = codes "byte " ++ decimal at
place_words (Element pou local_id) = pou ++ (codes " " ++ decimal local_id)

-- what the words about a project file have in front
abbrev pub front : ProjectFile → List ℕ
front First = []
front New = codes "new file: "

abbrev pub broken_line : ProjectFile → model.Broken → List ℕ
broken_line file b = line (front file ++ (codes "rule " ++ (decimal b.rule.0 ++ (codes " at " ++ place_words b.place))))

abbrev pub broken_answer : ProjectFile → model.Broken → Answer
broken_answer file b = refusal Broken (broken_line file b)

-- where a program isn't there: its name, or how many there are where none is named
abbrev pub program_words : Option (List ℕ) → ℕ → List ℕ
program_words (Some name) programs = codes "no program " ++ name
program_words None programs = decimal programs ++ codes " programs, name one"

abbrev pub program_line : ProjectFile → Option (List ℕ) → ℕ → List ℕ
program_line file program programs = line (front file ++ program_words program programs)

abbrev pub program_answer : ProjectFile → Option (List ℕ) → ℕ → Answer
program_answer file program programs = refusal NoProgram (program_line file program programs)

-- what a text breaks, as it is told
abbrev pub text_kind : TextRule → List ℕ
text_kind Length = codes "length"
text_kind Lex = codes "lex"
text_kind Syntax = codes "syntax"
text_kind Depth = codes "depth"
text_kind Name = codes "name"
text_kind Types = codes "type"
text_kind Recursion = codes "recursion"
text_kind Literal = codes "literal"

-- what a text breaks first, and where
abbrev pub text_line : BrokenText → List ℕ
text_line b = line (codes "text " ++ (text_kind b.rule ++ (codes " at byte " ++ decimal b.at)))

-- what is wrong with tasks, as it is told
abbrev pub task_kind : TaskKind → List ℕ
task_kind task.Count = codes "count"
task_kind task.Task = codes "task"
task_kind task.Instance = codes "instance"
task_kind task.Program = codes "program"

-- what is wrong first with the tasks of a file, and where
abbrev pub tasks_line : TaskKind → ℕ → List ℕ
tasks_line kind at = line (codes "tasks " ++ (task_kind kind ++ (codes " at byte " ++ decimal at)))

-- where retained lines, or the rows of events, are wrong
abbrev pub retained_line : ℕ → List ℕ
retained_line n = line (codes "retained line " ++ decimal n)

abbrev pub row_line : ℕ → List ℕ
row_line n = line (codes "events row " ++ decimal n)
