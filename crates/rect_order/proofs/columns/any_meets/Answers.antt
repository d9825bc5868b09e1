-- `any_meets` meets its contract: the hit is that of the places from `from` up to p. Assumes nothing.
use native.Mathlib.Omega.{arith}
use mathlib.Core.Path.{sym, ◌∙◌}
use mathlib.Core.Bool.{true≢false}
use borrow.Author.Rules.{sfits_of}
use Rattle.rect_order.proofs.Meet.{meets-none}
use Rattle.rect_order.proofs.Tells.{tells-not, tells_more, tells_all}
use Rattle.rect_order.proofs.columns.any_meets.Goals as goal

pub returns-then-s : goal.returns-then-s
returns-then-s c =
    let b = c.before.before.before in
    let t = c.struct_told-1.given in
    tells-not _ _ _ (λ j l m e. true≢false (sym e ∙ meets-none b.args.s.x0 b.args.s.x1 b.args.s.y0 b.args.s.y1 _
    (record { fits = sfits_of t.0.1; plain = b.requires.3.x0 }) (record { fits = sfits_of t.1.0.1; plain = b.requires.3.x1 }) c.if-s.true))

pub loop-p-init : goal.loop-p-init
loop-p-init c = (omega arith, omega arith, tells-not _ _ _ (λ j a b. absurd (omega arith)))

pub meets_at-here-requires : goal.meets_at-here-requires
meets_at-here-requires c = let p = c.requires in (p.0, omega arith, p.2, p.3)

pub overflow_add-p : goal.overflow_add-p
overflow_add-p c = omega arith

pub loop-p-smaller : goal.loop-p-smaller
loop-p-smaller c = omega arith

pub loop-p-preserved : goal.loop-p-preserved
loop-p-preserved c =
    let k = c.loop-p in
    let m = c.meets_at-here in
    let t =
    tells_more _ _ k.p k.hit m.result k.invariant.0 (λ e. sym m.ensures ∙ e) (λ e q. true≢false (sym q ∙ sym m.ensures ∙ e)) k.invariant.2 in
    (omega arith, omega arith, t)

pub returns : goal.returns
returns c = let k = c.loop-p in tells_all _ _ _ _ _ k.invariant.1 (omega arith) k.invariant.2
