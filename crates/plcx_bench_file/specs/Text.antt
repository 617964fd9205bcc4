-- The file as it is written, from its front to its end.
use Rattle.std.specs.Prelude.{ℕ, ◌+◌, ◌%◌, List, ◌++◌, codes}
use Rattle.std.specs.List.{flat_map, range_with_len}
use Rattle.std.specs.Fmt.{decimal}
use Rattle.plcx_bench_project.specs.Bench.{id_in}

-- the declaration of a variable
unfoldable pub declaration_text : ℕ → List ℕ
declaration_text i = codes "<variable name=\"V" ++ (decimal i ++ codes "\"><type><DINT/></type></variable>")

-- a variable as an input
unfoldable pub variable_text : ℕ → ℕ → List ℕ
variable_text id i = codes "<inVariable localId=\"" ++ (decimal id ++ (codes "\"><position x=\"0\" y=\"" ++ (decimal i ++ (codes "\"/><expression>V" ++ (decimal i ++ codes "</expression></inVariable>")))))

-- 1 as an input
unfoldable pub number_text : ℕ → ℕ → List ℕ
number_text id i = codes "<inVariable localId=\"" ++ (decimal id ++ (codes "\"><position x=\"0\" y=\"" ++ (decimal i ++ codes "\"/><expression>DINT#1</expression></inVariable>")))

-- the addition of two elements
unfoldable pub addition_text : ℕ → ℕ → ℕ → ℕ → List ℕ
addition_text id i left right = codes "<block localId=\"" ++ (decimal id ++ (codes "\" typeName=\"ADD\"><position x=\"0\" y=\"" ++ (decimal i
    ++ (codes "\"/><inputVariables><variable formalParameter=\"IN1\"><connectionPointIn><connection refLocalId=\"" ++ (decimal left
    ++ (codes "\"/></connectionPointIn></variable><variable formalParameter=\"IN2\"><connectionPointIn><connection refLocalId=\"" ++ (decimal right
    ++ codes "\"/></connectionPointIn></variable></inputVariables><outputVariables><variable formalParameter=\"OUT\"/></outputVariables></block>")))))))

-- the output of a network
unfoldable pub output_text : ℕ → ℕ → ℕ → ℕ → List ℕ
output_text id i sum next = codes "<outVariable localId=\"" ++ (decimal id ++ (codes "\"><position x=\"0\" y=\"" ++ (decimal i ++ (codes "\"/><connectionPointIn><connection refLocalId=\"" ++ (decimal sum
    ++ (codes "\" formalParameter=\"OUT\"/></connectionPointIn><expression>V" ++ (decimal next ++ codes "</expression></outVariable>")))))))

-- the i-th of n networks
unfoldable pub network_text : ℕ → ℕ → List ℕ
network_text n i = variable_text (id_in i 1) i ++ (number_text (id_in i 2) i ++ (addition_text (id_in i 3) i (id_in i 1) (id_in i 2) ++ output_text (id_in i 4) i (id_in i 3) ((i + 1) % n)))

-- what stands before the variables, between them and the networks, and behind these
abbrev pub head_text : List ℕ
head_text = codes "<project xmlns=\"http://www.plcopen.org/xml/tc6_0201\"><types><pous><pou name=\"Bench\" pouType=\"program\"><interface><localVars>"

abbrev pub middle_text : List ℕ
middle_text = codes "</localVars></interface><body><FBD>"

abbrev pub tail_text : List ℕ
tail_text = codes "</FBD></body></pou></pous></types></project>"

-- the whole file
abbrev pub file_text : ℕ → List ℕ
file_text n = head_text ++ (flat_map declaration_text (range_with_len 0 n) ++ (middle_text ++ (flat_map (network_text n) (range_with_len 0 n) ++ tail_text)))
