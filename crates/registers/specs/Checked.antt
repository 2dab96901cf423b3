-- What the check of a register answers, for every sheet and every register.
use Rattle.std.specs.Prelude.{ℕ, ◌≡◌, List, Option, Some, None, Result}
use Rattle.wire.specs.Record.{Reading, read, refused}
use Rattle.wire.specs.RegisterFormat.{Row}
use Rattle.wire.specs.Refusals.{reading_of}
use Rattle.wire.specs.declared.refusals.Fault.{Fault}
use Rattle.meaning.specs.Sheet.{Sheet}
use Rattle.meaning.specs.Sets.{Sets}
use Rattle.meaning.specs.Rule.{Answered, rule_number}
use Rattle.meaning.specs.OfRecords.{listed_sets}
use Rattle.rules.specs.Meant.{rule_meant}
use Rattle.registers.specs.Tallies.{Counted}
use Rattle.registers.specs.declared.check.Broken.{Broken}

-- a group's number and a rule's
pub record GroupRule : Type 0 where
  pub group : ℕ
  pub rule : ℕ

-- document 01's values of the check's answer: "group and rule, 0 and 0 when it fits"
abbrev pub broken_names : Option Broken → GroupRule
broken_names None = record { group = 0; rule = 0 }
broken_names (Some b) = record { group = b.group.0; rule = rule_number (rule_meant b.rule) }

-- the check's answer: these values, or a refusal's number with its row
abbrev pub check_gives : Result (Option Broken) Fault → Reading GroupRule
check_gives = reading_of broken_names

-- r is the answer to the sets A
pub record AnswerTo {X : Type 0} (s : Sheet) (A : Sets X) (r : Result (Option Broken) Fault) : Type 0 where
  pub names : GroupRule
  pub gives : check_gives r ≡ read names
  pub answered : Answered s A names.group names.rule

-- the answer r to a register that is read so: its refusal, or the answer to the sets that its rows list
pub record Checked (s : Sheet) (d : Reading (List Row)) (r : Result (Option Broken) Fault) : Type 0 where
  pub refusal : (n k : ℕ) → d ≡ refused n k → check_gives r ≡ refused n k
  pub answer : (rows : List Row) → d ≡ read rows → AnswerTo s (listed_sets rows) r

-- the table t that the check of a register leaves of u: counts of the sets that its rows list, where it is read, and else u
pub record Tallied (s : Sheet) (d : Reading (List Row)) (u t : List ℕ) : Type 0 where
  pub counts : (rows : List Row) → d ≡ read rows → Counted s (listed_sets rows) t
  pub kept : (n k : ℕ) → d ≡ refused n k → t ≡ u
