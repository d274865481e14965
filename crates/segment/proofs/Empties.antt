-- Sets without a condition are alike.
-- Assumes nothing.
use Rattle.alert.specs.Conditions.{Empty}
use Rattle.alert.specs.declared.conditions.Conditions.{Conditions}
use Rattle.alert.proofs.Sets.{none}
use Rattle.segment.specs.Faults.{Same, no_conditions}

pub none_in : Empty no_conditions
none_in c h = none c h

pub empty_same : (r : Conditions) → Empty r → Same r no_conditions
empty_same r empty c = ((λ h. absurd (empty c h)), λ h. absurd (none_in c h))
