use Rattle.plcx_xml.specs.Reading.{Parts}
use Rattle.plcx_xml.specs.declared.lexing.RawAttribute.{RawAttribute}

-- the bytes that an attribute's slices hold
abbrev pub parts_of : RawAttribute → Parts
parts_of r = record { name = r.name.now; written = r.written.now; own = r.own.now; rest = r.rest.now }
