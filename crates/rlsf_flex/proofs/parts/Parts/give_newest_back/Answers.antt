use Rattle.std.proofs.Common.{rules, ◌≡◌, ◌||◌, ◌+◌, ℕ, Some, None, [], ◌∷◌, IfSome, MatchOption, true≢false, arith, refl, sym, ◌∙◌, ap, subst}
use Rattle.std.proofs.lemmas.Bool.{false≢true}
use Rattle.rlsf_base.specs.Space.{IsWord}
use Rattle.rlsf_flex.specs.Footers.{Footers, first, footer_of}
use Rattle.rlsf_flex.specs.Steps.Trim.{HasRoomForChunk}
use Rattle.rlsf_model.specs.FlexWellFormed.{IsNewest, IsPool}
use Rattle.rlsf_model.specs.Trim.{IsNewestHeld}
use Rattle.rlsf_flex.specs.StandsFor.{kept_of}
use Rattle.rlsf_flex.proofs.NewestRange.{gave_newest, newest_ends, newest_first, newest_footers, newest_held, newest_pool, newest_words, next_pool, others, others_start}
use Rattle.rlsf_flex.proofs.InnerAllocator.{inner_stands, opened, stood_at}
use Rattle.rlsf_flex.proofs.TrimmedRanges.{LeavesPayloads-refl}
use Rattle.rlsf_flex.proofs.parts.Parts.give_newest_back.Given as given
use Rattle.rlsf_flex.proofs.parts.Parts.give_newest_back.Goals as goal
use Rattle.rlsf_flex.proofs.parts.Parts.give_newest_back.Goals.{After-drop_newest}

pub is_idle-requires : goal.is_idle-requires
is_idle-requires g c = (omega arith, (stood_at _ (inner_stands c.requires.stands c.requires.whole), (newest_pool c.requires.stands c.in-Some.is).row))

pub range_before-before-requires-clause-range : goal.range_before-before-requires-clause-range
range_before-before-requires-clause-range g c = newest_ends c.requires.stands c.in-Some.is

pub range_before-before-requires-clause-words : goal.range_before-before-requires-clause-words
range_before-before-requires-clause-words g c =
    let at = footer_of c.in-Some.pool.range in
    subst (λ m. IsWord m at × IsWord m (at + 8)) (sym c.memory_ref.ensures.memory) (newest_words c.requires.stands c.in-Some.is)

pub remove_pool-requires : goal.remove_pool-requires
remove_pool-requires g c = (omega arith, ((newest_pool c.requires.stands c.in-Some.is).row, c.is_idle.ensures.0 c.if-not-is_idle.false))

pub dealloc-requires-clause-outstanding : goal.dealloc-requires-clause-outstanding
dealloc-requires-clause-outstanding g c =
    let v = c.requires.stands in
    ([], others v c.in-Some.is, subst (g.S.FlexSource.owes c.args.self.now.source) (newest_first v c.in-Some.is) v.owed)

-- the range before it
before_is : (g : given.Over) (c : After-drop_newest g) → c.range_before-before.result ≡ first (others c.requires.stands c.in-Some.is)
before_is g c =
    let v = c.requires.stands in
    let rest = others v c.in-Some.is in
    c.range_before-before.ensures rest
    (subst (λ m. Footers m (c.in-Some.pool.range ∷ rest)) (sym c.memory_ref.ensures.memory) (newest_footers v c.in-Some.is c.requires.supported))
    (others_start v c.in-Some.is)

pub pool_of-next-requires : goal.pool_of-next-requires
pool_of-next-requires g c =
    let (step, stands, spare) = opened _ _ _ c.remove_pool.ensures.step in
    let idle = c.is_idle.ensures.0 c.if-not-is_idle.false in
    let b = c.remove_pool.new.self in (
      omega arith,
      (
        stood_at _ stands,
        subst (λ o. IfSome o (λ r. HasRoomForChunk r × ((len : ℕ) × IsPool b.state r len))) (sym (before_is g (goal.at.pool_of-next-requires g c).After-drop_newest))
            (next_pool c.requires.stands c.in-Some.is idle b step),
      ),
    )

pub returns : goal.returns
returns g c =
    let removed = c.remove_pool.ensures in
    let v = c.requires.stands in
    let is = c.in-Some.is in
    let (step, stands, spare) = opened _ _ _ c.remove_pool.ensures.step in
    let b = c.remove_pool.new.self in
    let told =
    subst (λ o. MatchOption o (c.pool_of-next.result ≡ None)
    (λ r. (len : ℕ) → IsPool b.state r len → c.pool_of-next.result ≡ Some (record { range = r; len = len }))) (before_is g (goal.at.returns g c).After-drop_newest)
    c.pool_of-next.ensures in
    record {
      gone = λ went.
          gave_newest v is (c.is_idle.ensures.0 c.if-not-is_idle.false) b step stands spare c.remove_pool.ensures.frame.place c.requires.whole c.requires.supported
          c.pool_of-next.result
          told g.S.FlexSource.leads c.dealloc.new.self c.drop_newest.new.self.ranges
          c.dealloc.ensures.leads (g.met.S.FlexSource.constant _ _ _ c.dealloc.ensures.leads)
          (c.dealloc.ensures.owes [] (others v is) (subst (g.S.FlexSource.owes c.args.self.now.source) (newest_first v is) v.owed)) c.drop_newest.ensures;
      held = λ stayed. absurd (true≢false stayed);
      same = λ stayed. absurd (true≢false stayed);
      payloads = assumption removed.frame;
      touches = removed.touches;
    }

pub returns-then-not-is_idle : goal.returns-then-not-is_idle
returns-then-not-is_idle g c = record {
  gone = λ went. absurd (false≢true went);
  held = λ stayed. newest_held c.requires.stands c.in-Some.is (λ idle. false≢true (sym c.if-not-is_idle.true ∙ c.is_idle.ensures.1 idle));
  same = λ stayed. refl;
  payloads = LeavesPayloads-refl c.args.self.now.tlsf;
  touches = omega arith;
}

pub returns-in_default : goal.returns-in_default
returns-in_default g c =
    let v = c.requires.stands in
    let t = g.S.FlexSource.terms c.args.self.now.source in
    let none : c.args.self.now.kept ≡ None = search rules in
    let newest = subst (λ k. IsNewest t (kept_of k) c.args.self.now.owed.ranges c.args.self.now.tlsf.state.chunks) none v.well_formed.newest in
    record {
      gone = λ went. absurd (false≢true went);
      held = λ stayed. subst (IsNewestHeld c.args.self.now.tlsf.state) (sym (newest (ap (λ b. b || t.grow) c.requires.supported))) tt;
      same = λ stayed. refl;
      payloads = LeavesPayloads-refl c.args.self.now.tlsf;
      touches = omega arith;
    }
