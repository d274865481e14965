use Rattle.std.proofs.Common.{◌≡◌, ℕ, ◌^◌, ◌<◌, Bool, true, not, eqb, ◌↔◌, sym, ap, ◌∙◌, subst, arith}
use Rattle.alert.specs.Alerts.{Asserts}
use Rattle.alert.proofs.Asserting.{asserts_is, asserts_test, open_bits}
use Rattle.alert.proofs.alerts.AlertRecord.asserts.Goals as goal

pub returns : goal.returns
unfolding open_bits
returns c =
    let narrow : c.args.mask < 2 ^ 16 = omega arith in
    let record_now = c.args.self.now in
    let value = ap (λ (m : ℕ). not (eqb (open_bits record_now.latched.bits record_now.answered.bits m) 0)) c.from.ensures ∙ asserts_is record_now c.args.mask narrow in
    record {
      value = value;
      test = subst (λ (b : Bool). (b ≡ true) ↔ Asserts record_now c.args.mask) (sym value) (asserts_test record_now c.args.mask);
    }
