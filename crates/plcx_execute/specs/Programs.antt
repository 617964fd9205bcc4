-- The programs of a unit's text.
use Rattle.std.specs.Prelude.{List, filter}
use Rattle.plcx_meaning.specs.Tree.{is_program, PouText}
use Rattle.plcx_meaning.specs.Execute.{TextState, program_named, text_machine}
use Rattle.plcx_traced.specs.Programs.{Programs}

-- the POUs that are programs, and what the meaning makes of each
abbrev pub programs_of : List PouText → Programs PouText TextState
programs_of unit = record {
  all = filter (λ (p : PouText). is_program p.kind) unit;
  named = λ name. program_named name unit;
  machine = text_machine unit;
}
