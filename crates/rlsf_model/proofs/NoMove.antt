-- A reallocation without a move is a reallocation, or it changes nothing.
use Rattle.std.specs.Option.{option_or, option_map_or}
use Rattle.std.proofs.Common.{◌≡◌, ℕ, ◌++◌, Bool, true, false, cond, leb, find, Option, Some, None, IfNone, IfSome, refl, sym, ◌∙◌, ap, subst}
use Rattle.rlsf_base.specs.Range.{end_of}
use Rattle.rlsf_model.specs.Allocate.{rest_behind}
use Rattle.rlsf_model.specs.Join.{starts_at}
use Rattle.rlsf_model.specs.Laws.{UnmovedIsReallocated}
use Rattle.rlsf_model.specs.Lists.{without}
use Rattle.rlsf_model.specs.NoMove.{ReallocatesUnmovedBy, unmoved_plan}
use Rattle.rlsf_model.specs.Reallocate.{Plan, Reallocates, ReallocatesBy, in_place, into_next, into_previous, plan}
use Rattle.rlsf_model.specs.State.{State, Used}
use Rattle.rlsf_model.proofs.Names.{resized, tail_joined}

module _ (s : State) (u : Used) (size : ℕ) where
  -- a plan that leaves the payload where it is is the first of the three
  plan-unmoved : (p : Plan) → unmoved_plan s u size ≡ Some p → plan s u size ≡ Some p
  plan-unmoved p is = grouped (in_place s u size) (into_next s u size) (into_previous s u size) ∙ ap (λ o. option_or o (into_previous s u size)) is
    where
      grouped : (p q r : Option Plan) → option_or p (option_or q r) ≡ option_or (option_or p q) r
      grouped None q r = refl
      grouped (Some p) q r = refl

  tested : (b : Bool) (q p : Plan) → q.payload ≡ u.payload → cond b (Some q) None ≡ Some p → p.payload ≡ u.payload
  tested true q p same e = let is : q ≡ p = cc in subst (λ (x : Plan). x.payload ≡ u.payload) is same
  tested false q p same e = absurd (cc)

  -- its payload is where it was
  payload-unmoved : (p : Plan) → unmoved_plan s u size ≡ Some p → p.payload ≡ u.payload
  payload-unmoved p is = go (in_place s u size) (into_next s u size) first second is
    where
      first : (q : Plan) → in_place s u size ≡ Some q → q.payload ≡ u.payload
      first q =
          tested (leb (end_of (resized u size)) (end_of u.block))
          (record { block = resized u size; payload = u.payload; free = tail_joined (resized u size) (end_of u.block) s.free }) q refl

      second : (q : Plan) → into_next s u size ≡ Some q → q.payload ≡ u.payload
      second q =
          let end = option_map_or end_of (find (starts_at (end_of u.block)) s.free) (end_of u.block) in
          tested (leb (end_of (resized u size)) end)
          (record { block = resized u size; payload = u.payload; free = rest_behind (resized u size) end ++ without (starts_at (end_of u.block)) s.free }) q refl

      go : (o r : Option Plan) → ((q : Plan) → o ≡ Some q → q.payload ≡ u.payload) → ((q : Plan) → r ≡ Some q → q.payload ≡ u.payload)
          → option_or o r ≡ Some p → p.payload ≡ u.payload
      go None r one two e = two p e
      go (Some q) r one two e = one p e

pub unmoved_is_reallocated : UnmovedIsReallocated
unmoved_is_reallocated sllen s t addr size reply step = go (unmoved_plan s step.block size) refl reply step.step
  where
    go : (o : Option Plan) → unmoved_plan s step.block size ≡ o → (q : Option ℕ) → ReallocatesUnmovedBy s step.block o q t
        → IfSome q (λ to. (to ≡ addr) × Reallocates sllen s addr size (Some to) t) × IfNone q (t ≡ s)
    go (Some p) is (Some to) by = (
      (
        by.answer ∙ payload-unmoved s step.block size p is ∙ step.holds.1,
        record { block = step.block; holds = step.holds; step = subst (λ o. ReallocatesBy sllen s step.block size o (Some to) t) (sym (plan-unmoved s step.block size p is)) by },
      ),
      tt,
    )
    go None is None by = (tt, by)
    go o is o' by = absurd by
