use Rattle.std.proofs.Common.{arith}
use Rattle.text.proofs.Counting.{room, digit_range, number_more, bound_more}
use Rattle.text.proofs.digits.number_of.Goals as goal
use Rattle.text.proofs.digits.number_of.Goals.{In-loop-digit}

pub overflow_sub-digit : goal.overflow_sub-digit
overflow_sub-digit c = (digit_range c.args.digits.now c.loop-digit.digit-index 0 c.loop-digit-test.true c.requires.all).0

pub overflow_mul-number : goal.overflow_mul-number
overflow_mul-number c = omega (arith, room c.loop-digit.number c.loop-digit.digit-index 0 c.loop-digit.invariant.bound (omega arith) (omega arith))

pub overflow_add-number : goal.overflow_add-number
overflow_add-number c =
    omega (
      arith,
      c.from.ensures,
      room c.loop-digit.number c.loop-digit.digit-index c.from.result c.loop-digit.invariant.bound (omega arith)
          (omega (arith, c.from.ensures, (digit_range c.args.digits.now c.loop-digit.digit-index 0 c.loop-digit-test.true c.requires.all).1)),
    )

pub loop-digit-preserved : goal.loop-digit-preserved
loop-digit-preserved c =
    let digits = c.args.digits.now in
    let i = c.loop-digit.digit-index in
    rw c.from.ensures (record {
      so_far = number_more digits i c.loop-digit.number c.loop-digit-test.true c.requires.all c.loop-digit.invariant.so_far;
      bound = bound_more digits i c.loop-digit.number c.loop-digit-test.true c.requires.all c.loop-digit.invariant.bound;
    })
