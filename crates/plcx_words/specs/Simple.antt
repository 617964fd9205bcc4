-- What the words of one simple command say, by the definitions of the crate `clap` alone.
use Rattle.std.specs.Prelude.{List, Option, Some, None, true, codes, if◌then◌else◌}
use Rattle.clap.specs.Faults.{fault_of}
use Rattle.clap.specs.Simple.{App, matches_of, new_app, new_rule, on_top, with_rule}
use Rattle.clap.specs.Walk.{Row, Rule, Text, first_of, is_empty}

-- a positional that has to be there
abbrev pub needed : Text → Rule
needed id = record (new_rule id) { required = true }

-- an option with one text
abbrev pub named : Text → Rule
named id = record (new_rule id) { long = Some id }

-- a command without arguments; its words begin behind the program's name, and it has no help and no version
abbrev pub bare : App
bare = on_top (λ s. record s { no_binary_name = true; disable_help_flag = true; disable_version_flag = true }) (new_app (codes "plcx"))

-- ACTION FILE [EVENTS] [--program NAME] [--turns N] [--retain FILE]
abbrev pub tool : App
tool = with_rule (with_rule (with_rule (with_rule (with_rule (with_rule
    bare (needed (codes "action"))) (needed (codes "file"))) (new_rule (codes "events")))
    (named (codes "program"))) (named (codes "turns"))) (named (codes "retain"))

-- the text that each argument has, if it is given
pub record Arguments : Type 0 where
  pub action : Option Text
  pub file : Option Text
  pub events : Option Text
  pub program : Option Text
  pub turns : Option Text
  pub retain : Option Text

abbrev pub arguments_in : List Row → Arguments
arguments_in rows = record {
  action = first_of (codes "action") rows;
  file = first_of (codes "file") rows;
  events = first_of (codes "events") rows;
  program = first_of (codes "program") rows;
  turns = first_of (codes "turns") rows;
  retain = first_of (codes "retain") rows;
}

-- the arguments that the words give, or nothing where `clap` calls them faulty
unfoldable pub given : List Text → Option Arguments
given words = if is_empty (fault_of tool words) then Some (arguments_in (matches_of tool words)) else None
