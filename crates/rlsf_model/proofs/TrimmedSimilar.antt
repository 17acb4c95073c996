-- From similar states a trim gives the same ranges back, and leads to similar states.
use Rattle.std.proofs.Common.{◌≡◌, ℕ, not, true≢false, length, map, List, [], ◌∷◌, ◌++◌, Option, arith, refl, sym, ◌∙◌, ap, subst, inl, inr}
use Rattle.rlsf_base.specs.declared.memory.range.Range.{Range}
use Rattle.rlsf_model.specs.FlexState.{AreFlexSimilar, FlexState, KeptPool}
use Rattle.rlsf_model.specs.Lists.{IsIn}
use Rattle.rlsf_model.specs.Note.{Note, dealloc}
use Rattle.rlsf_model.specs.Remove.{IsIdle, lies_within, outside_of, removed}
use Rattle.rlsf_model.specs.State.{AreSimilar, State, shape_of}
use Rattle.rlsf_model.specs.Terms.{Terms}
use Rattle.rlsf_model.specs.Trim.{all_removed, IsKeptToLast, IsNewestHeld, Trims}
use Rattle.rlsf_model.specs.WellFormed.{covers}
use Rattle.rlsf_model.proofs.Coverage.{coverage-IsIn, coverage-none, IsIn-map, IsIn-map_from}
use Rattle.rlsf_model.proofs.Orders.{HasSame, HasSame-filter}
use Rattle.rlsf_model.proofs.Tiling.{block_of}
use Rattle.rlsf_model.proofs.Trims.{EndsLast-same}

pub AreSimilar-sym : {s s' : State} → AreSimilar s s' → AreSimilar s' s
AreSimilar-sym r = record { chunks = λ c. ((r.chunks c).1, (r.chunks c).0); used = λ h. ((r.used h).1, (r.used h).0); free = sym r.free }

-- a range holds a used block in both states or in none
idle-similar : {s s' : State} → AreSimilar s s' → (q : Range) → IsIdle s q → IsIdle s' q
idle-similar {s} {s'} r q idle a low high = coverage-none block_of s'.used a (λ x i.
    let (y, j, is) = IsIn-map_from shape_of (shape_of x) s.used ((r.used (shape_of x)).1 (IsIn-map shape_of x s'.used i)) in
    let same : covers x.block a ≡ covers y.block a = ap (λ h. covers h.block a) is in
    omega (arith, coverage-IsIn block_of y s.used a j, idle a low high))

-- the newest ranges that hold none are the same ones
gone-same : {s s' : State} → AreSimilar s s' → (gone left gone' left' : List Range) → gone ++ left ≡ gone' ++ left' → ((q : Range) → IsIn q gone → IsIdle s q)
    → ((q : Range) → IsIn q gone' → IsIdle s' q)
    → IsNewestHeld s left → IsNewestHeld s' left' → (gone ≡ gone') × (left ≡ left')
gone-same r [] left [] left' e idle idle' held held' = (refl, e)
gone-same {s} r [] left (q ∷ gone') left' e idle idle' held held' =
    absurd (subst (IsNewestHeld s) e held (idle-similar (AreSimilar-sym r) q (idle' q (inl refl))))
gone-same {s' = s'} r (q ∷ gone) left [] left' e idle idle' held held' =
    absurd (subst (IsNewestHeld s') (sym e) held' (idle-similar r q (idle q (inl refl))))
gone-same r (q ∷ gone) left (q' ∷ gone') left' e idle idle' held held' = grind (arith, gone-same r gone left gone' left')

all_removed-similar : (gone : List Range) (s s' : State) → AreSimilar s s' → AreSimilar (all_removed gone s) (all_removed gone s')
all_removed-similar [] s s' r = r
all_removed-similar (q ∷ gone) s s' r = all_removed-similar gone (removed q s) (removed q s') (record {
  chunks = HasSame-filter (λ c. not (lies_within q c)) s.chunks s'.chunks r.chunks;
  used = r.used;
  free = ap (outside_of q) r.free;
})

-- the same is kept
kept-same : (cs ds : List Range) → HasSame cs ds → (left : List Range) (k k' : Option KeptPool) → IsKeptToLast cs left k → IsKeptToLast ds left k' → k ≡ k'
kept-same cs ds same l k k' a b = grind (arith, EndsLast-same)

pub trims-similar : (t : Terms) (s s' u u' : FlexState) (m n : ℕ) (notes notes' : List Note) → AreFlexSimilar s s' → Trims t s m notes u → Trims t s' n notes' u'
    → (m ≡ n) × (notes ≡ notes') × AreFlexSimilar u u'
trims-similar t s s' u u' m n notes notes' r (inl (takes, a)) (inr (none, _, _, _)) = absurd (true≢false (sym takes ∙ none))
trims-similar t s s' u u' m n notes notes' r (inr (none, _, _, _)) (inl (takes, b)) = absurd (true≢false (sym takes ∙ none))
trims-similar t s s' u u' m n notes notes' r (inr (_, a_none, a_noted, a)) (inr (_, b_none, b_noted, b)) =
    (a_none ∙ sym b_none, a_noted ∙ sym b_noted, subst (λ x. AreFlexSimilar x u') (sym a) (subst (AreFlexSimilar s) (sym b) r))
trims-similar t s s' u u' m n notes notes' r (inl (takes, a)) (inl (_, b)) =
    let (gone, left) = gone-same r.machine a.gone a.left b.gone b.left (sym a.split ∙ r.pools ∙ b.split) a.idle b.idle a.held b.held in
    let near = all_removed-similar a.gone s.machine s'.machine r.machine in
    let b_machine : u'.machine ≡ all_removed a.gone s'.machine = b.machine ∙ ap (λ l. all_removed l s'.machine) (sym gone) in
    let machine : AreSimilar u.machine u'.machine =
    subst (λ x. AreSimilar x u'.machine) (sym a.machine) (subst (AreSimilar (all_removed a.gone s.machine)) (sym b_machine) near) in (
      a.counted ∙ ap length gone ∙ sym b.counted,
      a.noted ∙ ap (map dealloc) gone ∙ sym b.noted,
      record {
        machine = machine;
        pools = a.pools ∙ left ∙ sym b.pools;
        kept = kept-same u.machine.chunks u'.machine.chunks machine.chunks a.left u.kept u'.kept a.kept (subst (λ l. IsKeptToLast u'.machine.chunks l u'.kept) (sym left) b.kept);
      },
    )
