-- A trim leaves a state well-formed, and is a run of removals.
use Rattle.std.proofs.Common.{◌≡◌, ◌⊎◌, ℕ, ◌+◌, ◌<◌, ◌≤◌, zero, suc, Bool, true, false, true≢false, ◌||◌, List, [], ◌∷◌, ◌++◌, length}
use Rattle.std.proofs.Common.{map, Option, Some, None, arith, refl, sym, ◌∙◌, ap, subst, inl, inr}
use Rattle.std.proofs.lemmas.Bool.{cases_lt}
use Rattle.rlsf_base.specs.declared.memory.range.Range.{Range}
use Rattle.rlsf_base.specs.Range.{end_of}
use Rattle.rlsf_base.proofs.Numbers.Roundings.{round32-le}
use Rattle.rlsf_model.specs.FlexState.{FlexState, KeptPool}
use Rattle.rlsf_model.specs.FlexWellFormed.{AreHoused, AreOutstanding, ArePools, IsFlexWellFormed, IsNewest, IsPool}
use Rattle.rlsf_model.specs.Lists.{IsIn}
use Rattle.rlsf_model.specs.Note.{Note, dealloc}
use Rattle.rlsf_model.specs.Remove.{IsIdle, IsRemovable, outside_of, removed}
use Rattle.rlsf_model.specs.Run.{Event, remove, IsRemoval, Runs}
use Rattle.rlsf_model.specs.State.{State}
use Rattle.rlsf_model.specs.Terms.{Terms}
use Rattle.rlsf_model.specs.Trim.{all_removed, EndsLast, GivesBack, IsKeptToLast, IsNewestHeld, Trims}
use Rattle.rlsf_model.specs.WellFormed.{covers, coverage, itself, IsWellFormed}
use Rattle.rlsf_model.proofs.Coverage.{before, behind, inside, where_is, covers-inside, covers-le}
use Rattle.rlsf_model.proofs.RangesInChunks.{AreOutstanding-rest, coverage-in}
use Rattle.rlsf_model.proofs.RangePools.{IsPool-last, IsPool-no_later}
use Rattle.rlsf_model.proofs.Removals.{coverage-outside, IsIn-outside, IsIn-outside_from, lies_within-le, Removes-keeps}
use Rattle.rlsf_model.proofs.Tiling.{block_of}

-- the used blocks stay
pub used-all_removed : (gone : List Range) (s : State) → (all_removed gone s).used ≡ s.used
used-all_removed [] s = refl
used-all_removed (r ∷ gone) s = used-all_removed gone (removed r s)

-- the reference model's own state is well-formed, and has its chunks as pools in outstanding ranges
pub record IsOver (fllen sllen : ℕ) (memory space : Range) (s : State) (pools : List Range) : Type 0 where
  pub machine : IsWellFormed fllen sllen memory s
  pub outstanding : AreOutstanding space pools
  pub housed : AreHoused pools s.chunks
  pub pooled : ArePools s pools

module _ {fllen sllen : ℕ} {memory space : Range} where
  module _ {s : State} {r : Range} {rest : List Range} (w : IsOver fllen sllen memory space s (r ∷ rest)) where
    -- another range has no byte of the newest
    off_newest : (p : Range) (a : ℕ) → IsIn p rest → p.start ≤ a → a < end_of p → covers r a ≡ 0
    off_newest p a i low high = omega (arith, w.outstanding.disjoint a, coverage-in p rest a i low high)

    -- the newest range may be taken away, if it holds no used block
    newest_removable : IsIdle s r → IsRemovable s r
    newest_removable idle = record {
      idle = idle;
      whole = λ c i. let (p, j, from, to) = w.housed c i in
          elim j [
            | inl same ↦ let start : p.start ≡ r.start = ap (λ q. q.start) {x = p} same in let end : end_of p ≡ end_of r = ap end_of {x = p} same in
                inl (omega arith, omega arith)
            | inr k ↦ inr (λ a. elim (where_is c a) [
              | inside one low high ↦ omega (arith, off_newest p a k (omega arith) (omega arith))
              | before none low ↦ omega (arith, covers-le r a)
              | behind none high ↦ omega (arith, covers-le r a)
            ])
          ];
    }

    -- a chunk of another range is left
    other_left : (p c : Range) → IsIn p rest → IsIn c s.chunks → p.start ≤ c.start → end_of c ≤ end_of p → IsIn c (outside_of r s.chunks)
    other_left p c j i from to =
        let room = (w.machine.chunks c i).has_room in
        elim (IsIn-outside_from r c s.chunks i) [
          | inl lies ↦ absurd (omega (arith, lies.0, lies.1, off_newest p c.start j (omega arith) (omega arith), covers-inside r c.start lies.0 (omega (arith, lies.1))))
          | inr left ↦ left
        ]

    -- the pools of the others stay
    pool_left : (p : Range) (len : ℕ) → IsIn p rest → IsPool s p len → IsPool (removed r s) p len
    pool_left p len j is =
        let within = is.within in
        let begins = round32-le p.start in
        record {
          some = is.some;
          within = is.within;
          nearly = is.nearly;
          row = λ a low high.
              let (c, i, from, low', high', to) = is.row a low high in
              (c, other_left p c j i (omega arith) (omega arith), from, low', high', to);
          unused = λ a low high. omega (arith, is.unused a low high, coverage-outside itself r s.chunks a (λ x i. omega arith) (off_newest p a j (omega arith) (omega arith)));
        }

    -- without it the state is over the others
    IsOver-removed : IsIdle s r → IsOver fllen sllen memory space (removed r s) rest
    IsOver-removed idle = record {
      machine = Removes-keeps w.machine r (newest_removable idle) (removed r s) refl;
      outstanding = AreOutstanding-rest space r rest w.outstanding;
      housed = λ c h.
          let (i, off) = IsIn-outside r c s.chunks h in
          let (p, j, from, to) = w.housed c i in
          elim j [
            | inl same ↦
                let start : p.start ≡ r.start = ap (λ q. q.start) {x = p} same in
                let end : end_of p ≡ end_of r = ap end_of {x = p} same in
                absurd (true≢false (sym (lies_within-le r c (omega arith) (omega arith)) ∙ off))
            | inr k ↦ (p, k, from, to)
          ];
      pooled = λ p i. let (len, is) = w.pooled p (inr i) in (len, pool_left p len i is);
    }

  -- so without some of them
  pub IsOver-all_removed : (gone left : List Range) (s : State) → IsOver fllen sllen memory space s (gone ++ left) → ((r : Range) → IsIn r gone → IsIdle s r)
      → IsOver fllen sllen memory space (all_removed gone s) left
  IsOver-all_removed [] left s w idle = w
  IsOver-all_removed (r ∷ gone) left s w idle = IsOver-all_removed gone left (removed r s) (IsOver-removed w (idle r (inl refl))) (λ q i. idle q (inr i))

  -- they are taken away one after another
  pub Runs-all_removed : (gone left : List Range) (s : State) → IsOver fllen sllen memory space s (gone ++ left) → ((r : Range) → IsIn r gone → IsIdle s r)
      → Runs fllen sllen memory s (map remove gone) (all_removed gone s)
  Runs-all_removed [] left s w idle = refl
  Runs-all_removed (r ∷ gone) left s w idle =
      let now = idle r (inl refl) in
      (removed r s, newest_removable w now, refl, Runs-all_removed gone left (removed r s) (IsOver-removed w now) (λ q i. idle q (inr i)))

-- those calls are removals, one a range
pub AreRemovals : (gone : List Range) → (length (map remove gone) ≡ length gone) × ((e : Event) → IsIn e (map remove gone) → IsRemoval e)
AreRemovals [] = (refl, λ e i. absurd i)
AreRemovals (r ∷ gone) = let (long, all) = AreRemovals gone in (ap suc long, λ e. elim [ inl same ↦ subst IsRemoval (sym same) tt | inr i ↦ all e i ])

-- ---- the kept pool

-- a pool ends where the range's last chunk does
pub EndsLast-pool : {fllen sllen : ℕ} {memory : Range} {s : State} → IsWellFormed fllen sllen memory s → (r : Range) (len : ℕ) → IsPool s r len
    → EndsLast s.chunks r len
EndsLast-pool {s = s} w r len is =
    let (c, i, from, ends) = IsPool-last s r len is in
    record {
      last = (c, i, from, omega (arith, is.within), ends);
      none_later = λ d j low to. IsPool-no_later s r d len is j (omega (arith, (w.chunks d j).has_room)) to;
    }

-- with the same chunks, the last ends at one address
pub EndsLast-same : (cs ds : List Range) (r : Range) (m n : ℕ) → ((c : Range) → IsIn c cs → IsIn c ds) → ((c : Range) → IsIn c ds → IsIn c cs) → EndsLast cs r m
    → EndsLast ds r n → m ≡ n
EndsLast-same cs ds r m n to from a b = grind arith

-- ---- a trim over a source

pub IsOver-flex : {fllen sllen : ℕ} {memory : Range} {t : Terms} {s : FlexState} → IsFlexWellFormed fllen sllen memory t s
    → IsOver fllen sllen memory t.space s.machine s.pools
IsOver-flex w = record { machine = w.machine; outstanding = w.pools; housed = w.housed; pooled = w.pooled }

module _ {fllen sllen : ℕ} {memory : Range} {t : Terms} {s : FlexState} (w : IsFlexWellFormed fllen sllen memory t s) where
  pub IsOver-given_back : (count : ℕ) (notes : List Note) (u : FlexState) (g : GivesBack s count notes u) → IsOver fllen sllen memory t.space u.machine u.pools
  IsOver-given_back count notes u g =
      subst (λ (m : State). IsOver fllen sllen memory t.space m u.pools) (sym g.machine)
      (subst (IsOver fllen sllen memory t.space (all_removed g.gone s.machine)) (sym g.pools)
      (IsOver-all_removed g.gone g.left s.machine (subst (IsOver fllen sllen memory t.space s.machine) g.split (IsOver-flex w)) g.idle))

  -- the newest range that is left is a kept pool
  newest_left : t.dealloc ≡ true → (m : State) (left : List Range) (kept : Option KeptPool) → IsOver fllen sllen memory t.space m left → IsKeptToLast m.chunks left kept
      → IsNewest t kept left m.chunks
  newest_left takes m [] kept over is = subst (λ k. IsNewest t k [] m.chunks) (sym is) (λ keep. refl)
  newest_left takes m (r ∷ left) kept over (len, ends, is) =
      let (n, pool) = over.pooled r (inl refl) in
      let same : n ≡ len = EndsLast-same m.chunks m.chunks r n len (λ c i. i) (λ c i. i) (EndsLast-pool over.machine r n pool) ends in
      let (c, i, from, to, at) = ends.last in
      let now = subst (IsPool m r) same pool in
      subst (λ k. IsNewest t k (r ∷ left) m.chunks) (sym is) (record {
        rest = left;
        split = refl;
        keeping = ap (λ b. b || t.grow) takes;
        within = now.within;
        nearly = now.nearly;
        last = (c, i, at);
        unused = now.unused;
      })

  -- a trim keeps a state well-formed
  pub Trims-keeps : (count : ℕ) (notes : List Note) (u : FlexState) → Trims t s count notes u → IsFlexWellFormed fllen sllen memory t u
  Trims-keeps count notes u (inr (_, _, _, same)) = subst (IsFlexWellFormed fllen sllen memory t) (sym same) w
  Trims-keeps count notes u (inl (takes, g)) =
      let over = IsOver-given_back count notes u g in
      record {
        machine = over.machine;
        space = w.space;
        pools = over.outstanding;
        housed = over.housed;
        newest = newest_left takes u.machine u.pools u.kept over (subst (λ ps. IsKeptToLast u.machine.chunks ps u.kept) (sym g.pools) g.kept);
        pooled = over.pooled;
      }

-- a trim leaves the used blocks
pub used-trimmed : (t : Terms) (s u : FlexState) (count : ℕ) (notes : List Note) → Trims t s count notes u → u.machine.used ≡ s.machine.used
used-trimmed t s u count notes h = grind (arith, used-all_removed)

-- ---- each trim has a reply

-- some number in a span is not mapped to zero, or all are
zero_or_some : (f : ℕ → ℕ) (low n : ℕ) → ((a : ℕ) → low ≤ a → a < low + n → f a ≡ 0) ⊎ ((a : ℕ) × (low ≤ a) × (a < low + n) × (1 ≤ f a))
zero_or_some f low zero = inl (λ a from to. absurd (omega arith))
zero_or_some f low (suc n) = elim (zero_or_some f low n) [
  | inr (a, from, to, some) ↦ inr (a, from, omega arith, some)
  | inl zeros ↦ elim (cases_lt 0 (f (low + n))) [
    | inl some ↦ inr (low + n, omega arith, omega arith, some)
    | inr none ↦ inl (λ a from to. elim (cases_lt a (low + n)) [
      | inl less ↦ zeros a from less
      | inr last ↦ let at : a ≡ low + n = omega arith in let same : f a ≡ f (low + n) = ap f at in omega arith
    ])
  ]
]

-- a range holds a used block or doesn't
idle_or_held : (s : State) (r : Range) → IsIdle s r ⊎ (IsIdle s r → ⊥)
idle_or_held s r = elim (zero_or_some (coverage block_of s.used) r.start r.len) [
  | inl idle ↦ inl idle
  | inr (a, from, to, some) ↦ inr (λ idle. omega (arith, idle a from to))
]

-- the newest ranges that hold none, and the others
record IsSplit (s : State) (pools : List Range) : Type 0 where
  gone : List Range
  left : List Range
  split : pools ≡ gone ++ left
  idle : (r : Range) → IsIn r gone → IsIdle s r
  held : IsNewestHeld s left

split_off : (s : State) (pools : List Range) → IsSplit s pools
split_off s [] = record { gone = []; left = []; split = refl; idle = λ r i. absurd i; held = tt }
split_off s (r ∷ pools) = elim (idle_or_held s r) [
  | inr held ↦ record { gone = []; left = r ∷ pools; split = refl; idle = λ q i. absurd i; held = held }
  | inl idle ↦
      let more = split_off s pools in
      record {
        gone = r ∷ more.gone;
        left = more.left;
        split = ap (λ ps. r ∷ ps) more.split;
        idle = λ q. elim [ inl same ↦ subst (IsIdle s) (sym same) idle | inr i ↦ more.idle q i ];
        held = more.held;
      }
]

-- what is kept of ranges that have pools
kept_of_left : {fllen sllen : ℕ} {memory space : Range} (m : State) (left : List Range) → IsOver fllen sllen memory space m left
    → (kept : Option KeptPool) × IsKeptToLast m.chunks left kept
kept_of_left m [] over = (None, refl)
kept_of_left m (r ∷ left) over =
    let (len, pool) = over.pooled r (inl refl) in
    (Some (record { range = r; len = len }), (len, EndsLast-pool over.machine r len pool, refl))

-- every trim has a reply
pub trim_answers : {fllen sllen : ℕ} {memory : Range} {t : Terms} {s : FlexState} → IsFlexWellFormed fllen sllen memory t s
    → (count : ℕ) × (gone : List Range) × (u : FlexState) × Trims t s count (map dealloc gone) u
trim_answers {t = t} {s = s} w = go t.dealloc refl
  where
    go : (b : Bool) → t.dealloc ≡ b → (count : ℕ) × (gone : List Range) × (u : FlexState) × Trims t s count (map dealloc gone) u
    go false keeps_all = (0, [], s, inr (keeps_all, refl, refl, refl))
    go true takes =
        let x = split_off s.machine s.pools in
        let m = all_removed x.gone s.machine in
        let over = IsOver-all_removed x.gone x.left s.machine (subst (IsOver _ _ _ t.space s.machine) x.split (IsOver-flex w)) x.idle in
        let (kept, is) = kept_of_left m x.left over in (
          length x.gone,
          x.gone,
          record { machine = m; pools = x.left; kept = kept },
          inl (
            takes,
            record {
              gone = x.gone;
              left = x.left;
              split = x.split;
              idle = x.idle;
              held = x.held;
              counted = refl;
              noted = refl;
              machine = refl;
              pools = refl;
              kept = is;
            },
          ),
        )
