-- Texts of plans and of expressions, built from their parts.
use Rattle.std.specs.Prelude.{ℕ, ◌≡◌, ◌++◌, List, Ok, Some, codes, option_map, zero, suc}
use Rattle.serde_json.specs.Read.{read as read_text}
use Rattle.plan_model.specs.declared.step.Step.{Step}
use Rattle.plan_reader.specs.Plans.{plan_walk}

-- the text is that of a value which denotes the plan
abbrev pub IsTextOf : List ℕ → List Step → Type 0
IsTextOf text plan = option_map plan_walk (read_text text) ≡ Some (Ok plan)

-- a source, and this step
abbrev pub step_text : List ℕ → List ℕ
step_text step = codes "{\"format\":1,\"steps\":[{\"do\":\"source\",\"name\":\"a\"}," ++ step ++ codes "]}"

-- a source, and its rows that pass this test
abbrev pub test_text : List ℕ → List ℕ
test_text test = step_text (codes "{\"do\":\"where\",\"of\":0,\"if\":" ++ test ++ codes "}")

-- a text, and so many times a comma and the text
abbrev pub followed : ℕ → List ℕ → List ℕ
followed zero text = text
followed (suc n) text = (followed n text ++ codes ",") ++ text

-- so many negations of an expression
abbrev pub negated_text : ℕ → List ℕ → List ℕ
negated_text zero expr = expr
negated_text (suc n) expr = codes "{\"call\":\"neg\",\"args\":[" ++ negated_text n expr ++ codes "]}"

-- the sum of two expressions
abbrev pub added_text : List ℕ → List ℕ → List ℕ
added_text left right = codes "{\"call\":\"add\",\"args\":[" ++ left ++ codes "," ++ right ++ codes "]}"

-- a column under so many levels of sums
abbrev pub tree_text : ℕ → List ℕ
tree_text zero = codes "{\"col\":0}"
tree_text (suc n) = added_text (tree_text n) (tree_text n)
