-- The rule that the code's value stands for.
use Rattle.meaning.specs.Rule.{Rule, outside, lacking, uncovered, shared, below, above}
use Rattle.rules.specs.declared.rule.Rule as declared
use Rattle.rules.specs.declared.rule.Rule.TheVariants as coded

abbrev pub rule_meant : declared.Rule → Rule
rule_meant coded.Outside = outside
rule_meant coded.Lacking = lacking
rule_meant coded.Uncovered = uncovered
rule_meant coded.Shared = shared
rule_meant coded.Below = below
rule_meant coded.Above = above
