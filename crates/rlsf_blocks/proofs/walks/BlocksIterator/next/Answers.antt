use Rattle.std.proofs.Common.{◌≡◌, ◌+◌, ◌*◌, ◌/◌, ◌∷◌, Some, arith, sym, ◌∙◌, ap, subst}
use Rattle.std_collections.proofs.IterRuns.{first_progress}
use Rattle.rlsf_blocks.specs.Steps.Walk.{IsUnderway, blocks_between, next_start}
use Rattle.rlsf_blocks.proofs.Walking.UnfinishedWalk.{IsFirst-underway, IsFirst-word, block_by, next_start-then, next_start-else}
use Rattle.rlsf_blocks.proofs.walks.BlocksIterator.next.Goals as goal
use Rattle.rlsf_blocks.proofs.walks.BlocksIterator.next.Goals.{then-is_last, else-is_last}

pub word-word-requires : goal.word-word-requires
word-word-requires c = (IsFirst-underway c.self.inside.memory.now c.self.inside.start c.self.inside.end c.self.invariant c.if-self.false).size

pub overflow_add-behind : goal.overflow_add-behind
overflow_add-behind c =
    let is = IsFirst-word c.self.inside.memory.now c.self.inside.start c.self.inside.end c.word-word.result c.word-word.ensures c.self.invariant c.if-self.false in
    record { fits = omega (arith, is.past) }

pub word-is_last-requires : goal.word-is_last-requires
word-is_last-requires c =
    (IsFirst-word c.self.inside.memory.now c.self.inside.start c.self.inside.end c.word-word.result c.word-word.ensures c.self.invariant c.if-self.false).behind

pub overflow_add-self : goal.overflow_add-self
overflow_add-self c =
    let is = IsFirst-word c.self.inside.memory.now c.self.inside.start c.self.inside.end c.word-word.result c.word-word.ensures c.self.invariant c.if-self.false in
    record { fits = is.past }

pub invariant_of-result : goal.invariant_of-result
invariant_of-result c = (IsFirst-word c.self.inside.memory.now c.self.inside.start c.self.inside.end c.word-word.result c.word-word.ensures c.self.invariant c.if-self.false).block

goes : (c : goal.After-self-1) → next_start c.self.inside.memory.now (c.self.inside.start + c.word-word.result / 32 * 32) ≡ c.if-is_last.self
goes c = elim c.if-is_last.branch [
  | then-is_last w ↦ next_start-then c.self.inside.memory.now _ _ c.word-is_last.result c.word-is_last.ensures w.if-is_last.true w.self-is
  | else-is_last w ↦ next_start-else c.self.inside.memory.now _ _ c.word-is_last.result c.word-is_last.ensures w.if-is_last.false w.self-is
]

pub invariant_of-self : goal.invariant_of-self
invariant_of-self c =
    let is = IsFirst-word c.self.inside.memory.now c.self.inside.start c.self.inside.end c.word-word.result c.word-word.ensures c.self.invariant c.if-self.false in
    subst (λ a. IsUnderway c.self.inside.memory.now a c.self.inside.end) (goes c) is.next

pub returns-clause-steps : goal.returns-clause-steps
returns-clause-steps c =
    let is = IsFirst-word c.self.inside.memory.now c.self.inside.start c.self.inside.end c.word-word.result c.word-word.ensures c.self.invariant c.if-self.false in
    sym c.self.view_is ∙ is.list ∙ ap (λ a. block_by c.self.inside.start c.word-word.result ∷ blocks_between c.self.inside.memory.now a c.self.inside.end) (goes c)

pub returns-clause-goes : goal.returns-clause-goes
returns-clause-goes c = first_progress (λ b. b) _ _ (Some _) (returns-clause-steps c)
