-- Where the statements of a POU stand.
use Rattle.plcx_meaning.specs.Base.{Site}
use Rattle.plcx_meaning.specs.Layout.{Scope}
use Rattle.plcx_meaning.specs.Execute.{TextSetting}

-- the variables of a POU with what their types stand for, at an instance
abbrev pub setting : Scope → Site → TextSetting
setting c site = record { world = c.world; variables = c.own; site = site }
