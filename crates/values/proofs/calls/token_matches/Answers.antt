use Rattle.std.specs.Bool.{beq}
use Rattle.std.specs.Int.Bits.{bit_xor}
use Rattle.std.specs.Prelude.{◌≡◌, refl, Bool, true, false, ◌&&◌}
use Rattle.std.proofs.Common.{ap₂, ◌∙◌, arith, rules}
use Rattle.lists.specs.Defs.{nought}
use Rattle.lists.specs.Tests.{zero_or}
use Rattle.lists.specs.Whole.{collected_more, compared_done}
use mir.Val.{bool_byte}
use Rattle.values.proofs.calls.token_matches.Goals as goal

presence : (p q : Bool) → nought (bit_xor (bool_byte p) (bool_byte q)) ≡ beq p q
presence true true = refl
presence true false = refl
presence false true = refl
presence false false = refl

pub loop-i-init : goal.loop-i-init
loop-i-init c = refl

pub loop-i-preserved : goal.loop-i-preserved
loop-i-preserved c =
    let o = c.loop-i in
    collected_more c.args.a.bytes c.args.b.bytes 16 (search rules) (search rules) o.differences o.i o.invariant (omega arith)

pub returns : goal.returns
returns c =
    let o = c.loop-i in
    zero_or (bit_xor (bool_byte c.args.a.present) (bool_byte c.args.b.present)) o.differences
    ∙ ap₂ ◌&&◌ (presence c.args.a.present c.args.b.present) (compared_done c.args.a.bytes c.args.b.bytes 16 (search rules) (search rules) (nought o.differences) o.i o.invariant (omega arith))
