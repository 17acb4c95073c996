-- Words that may be read: each word of the pools is here, or the words have the values that a layout gives them.
use Rattle.std.proofs.Common.{◌≡◌, ◌≢◌, ℕ, ◌+◌, ◌^◌, ◌<◌, List, arith}
use Rattle.std.proofs.lemmas.Bool.{cases_eq}
use Rattle.rlsf_base.specs.declared.memory.range.Range.{Range}
use Rattle.rlsf_base.specs.Range.{end_of}
use Rattle.rlsf_base.specs.OpenSpace.{IsHere, IsReadable}
use Rattle.rlsf_base.specs.Space.{IsWord, Space, range_of, word_at}
use Rattle.rlsf_base.proofs.Lending.Present.{here-word}
use Rattle.rlsf_base.proofs.Lending.WordIsHere.{is_here-word}
use Rattle.rlsf_table.specs.Table.{Table, head_at}
use Rattle.rlsf_blocks.specs.Consistency.Heads.{HasHeads}
use Rattle.rlsf_blocks.specs.Consistency.Linked.{IsLinked, IsNeighbour}
use Rattle.rlsf_blocks.specs.Consistency.Pools.{ArePoolsHere, IsPoolWord, all_of}
use Rattle.rlsf_blocks.specs.Steps.Legible.{HasLegibleHeads, HasLegibleLinks, IsLegible, IsLegibleAt, IsLegibleBlock}

-- a word that may be read, whose value is that of a word
pub readable_is : (m : Space) (a : ℕ) → word_at m a < 2 ^ 64 → IsWord m a → IsReadable m a
readable_is m a small (whole, lies) = (whole, lies, is_here-word m a lies.0 small)

-- a word whose value is that of a word
pub legible : (ps : List ℕ) (m : Space) (a : ℕ) → word_at m a < 2 ^ 64 → IsLegible ps m a
legible ps m a small (word, pool) = is_here-word m a word.1.0 small

pub legible_is : (ps : List ℕ) (m : Space) (a word : ℕ) → word_at m a ≡ word → word < 2 ^ 64 → IsLegible ps m a
legible_is ps m a word same small = legible ps m a (omega (arith, same, small))

-- ---- each word of the pools is here

module _ (ps : List ℕ) (m : Space) (here : ArePoolsHere ps m) where
  pub legible_here : (a : ℕ) → IsLegible ps m a
  legible_here a word = here a word

  pub IsLegibleAt-here : (at offset : ℕ) → IsLegibleAt ps m at offset
  IsLegibleAt-here at offset = record { size = legible_here at; link = legible_here (at + offset) }

  pub IsLegibleBlock-here : (block : ℕ) → IsPoolWord ps m block → IsLegibleBlock ps m block
  IsLegibleBlock-here block word = record {
    size = (word.0.0, word.0.1, here block word);
    behind = λ len size is. (legible_here (block + len), legible_here (block + len + 8));
    links = λ size. record {
      to_next = legible_here (block + 16);
      to_previous = legible_here (block + 24);
      next = λ some. IsLegibleAt-here (word_at m (block + 16)) 24;
      previous = λ some. IsLegibleAt-here (word_at m (block + 24)) 16;
    };
  }

  pub HasLegibleHeads-here : (fllen sllen : ℕ) (t : Table) → HasLegibleHeads fllen sllen ps m t
  HasLegibleHeads-here fllen sllen t fl sl row place some = IsLegibleAt-here (head_at t fl sl) 24

-- ---- links and heads

module _ (fllen sllen : ℕ) (ps : List ℕ) (m : Space) (t : Table) (addressable : end_of (range_of m) < 2 ^ 64) where
  -- a neighbour of a free block
  IsLegibleAt-neighbour : (f : Range) (at offset : ℕ) → f.start < 2 ^ 64 → IsNeighbour sllen ps m f at offset → IsLegibleAt ps m at offset
  IsLegibleAt-neighbour f at offset small is =
      record { size = legible ps m at is.size.1; link = legible_is ps m (at + offset) f.start is.names.1 small }

  -- a link that is 0 or leads to a word
  link_legible : (a : ℕ) → (word_at m a ≢ 0 → IsWord m (word_at m a)) → IsLegible ps m a
  link_legible a leads = grind (arith, cases_eq, legible)

  pub HasLegibleLinks-linked : (f : Range) → f.start < 2 ^ 64 → IsLinked fllen sllen ps m t f → HasLegibleLinks ps m f.start
  HasLegibleLinks-linked f small is = record {
    to_next = link_legible (f.start + 16) (λ some. (is.next some).size.0.0);
    to_previous = link_legible (f.start + 24) (λ some. (is.previous some).size.0.0);
    next = λ some. IsLegibleAt-neighbour f (word_at m (f.start + 16)) 24 small (is.next some);
    previous = λ some. IsLegibleAt-neighbour f (word_at m (f.start + 24)) 16 small (is.previous some);
  }

  pub HasLegibleHeads-agree : HasHeads fllen sllen ps m t → HasLegibleHeads fllen sllen ps m t
  HasLegibleHeads-agree heads fl sl row place some =
      let is = ((heads fl row).classes sl place).head some in
      record { size = legible ps m (head_at t fl sl) is.size.1; link = legible_is ps m (head_at t fl sl + 24) 0 is.first.1 (omega arith) }

-- where each byte of a memory is here, so is each word of the one pool that is all of it
pub here_all : (m : Space) → IsHere m (range_of m) → ArePoolsHere (all_of m) m
here_all m here a ((whole, lies), pool) = here-word m (range_of m) a here lies.0 lies.1
