-- The next block is the head of the class. Where there is none its bit is cleared, and where its row is empty then, that one's too.
use Rattle.std.proofs.Common.{rules, true≢false, ◌∙◌, ap, refl, sym, subst, ◌∷◌, ◌++◌}
use Rattle.rlsf_int.specs.Bits.{bit}
use Rattle.rlsf_table.specs.Table.{HasBits}
use Rattle.rlsf_table.proofs.Tables.Heads.{HasPlaces-written, IsHeadSet-opened}
use Rattle.rlsf_table.proofs.Tables.Bits.{HasBits-some_left, HasBits-row_left, HasBits-none_left}
use Rattle.rlsf_table.proofs.Tables.Rows.{row_words-at, row_words-length, rows-bit_same, rows-same}
use Rattle.rlsf_table.proofs.table.ClassTable.take.Goals as goal

pub returns-then-is_empty : goal.returns-then-is_empty
returns-then-is_empty g c = record {
  heads = IsHeadSet-opened g.row.FLLEN g.row.SLLEN c.args.fl c.args.sl c.args.next _ _ _ c.self.view_is c.requires.class.0 c.requires.class.1 c.self.told c.self.invariant refl;
  bits = λ r before after class is_head bits.
      let inside = subst (λ t. HasBits g.row.FLLEN g.row.SLLEN t (before ++ r ∷ after)) (sym c.self.view_is) bits in
      HasBits-none_left g.row.FLLEN g.row.SLLEN c.args.fl c.args.sl _ _ r before after class inside c.requires.class.0 (record {
        first = c.remove-then-is_empty.ensures.own;
        rows = row_words-length g.row.FLLEN g.row.SLLEN _ _;
        places = λ k apart. rows-bit_same g.row.FLLEN g.row.SLLEN _ _ _ _ c.args.fl c.requires.class.0 k (c.remove.ensures.own k apart);
        others = λ i within apart. rows-same g.row.FLLEN g.row.SLLEN _ _ _ _ i within (c.remove.ensures.others i apart);
      }) c.args.next is_head c.if-next-eq0.true
      (ap (λ n. bit n c.args.sl) (row_words-at g.row.FLLEN g.row.SLLEN _ _ c.args.fl c.requires.class.0) ∙ c.remove.ensures.gone)
      (row_words-at g.row.FLLEN g.row.SLLEN _ _ c.args.fl c.requires.class.0 ∙ c.is_empty.ensures.0 c.if-is_empty.true)
      c.remove-then-is_empty.ensures.gone;
  counts = search rules;
}

pub returns-else-is_empty : goal.returns-else-is_empty
returns-else-is_empty g c = record {
  heads = IsHeadSet-opened g.row.FLLEN g.row.SLLEN c.args.fl c.args.sl c.args.next _ _ _ c.self.view_is c.requires.class.0 c.requires.class.1 c.self.told c.self.invariant refl;
  bits = λ r before after class is_head bits.
      let inside = subst (λ t. HasBits g.row.FLLEN g.row.SLLEN t (before ++ r ∷ after)) (sym c.self.view_is) bits in
      HasBits-row_left g.row.FLLEN g.row.SLLEN c.args.fl c.args.sl _ _ r before after class inside c.requires.class.0 (record {
        first = λ i apart. refl;
        rows = row_words-length g.row.FLLEN g.row.SLLEN _ _;
        places = λ k apart. rows-bit_same g.row.FLLEN g.row.SLLEN _ _ _ _ c.args.fl c.requires.class.0 k (c.remove.ensures.own k apart);
        others = λ i within apart. rows-same g.row.FLLEN g.row.SLLEN _ _ _ _ i within (c.remove.ensures.others i apart);
      }) c.args.next is_head c.if-next-eq0.true
      (ap (λ n. bit n c.args.sl) (row_words-at g.row.FLLEN g.row.SLLEN _ _ c.args.fl c.requires.class.0) ∙ c.remove.ensures.gone)
      (λ none. absurd (true≢false (sym (c.is_empty.ensures.1 (sym (row_words-at g.row.FLLEN g.row.SLLEN _ _ c.args.fl c.requires.class.0) ∙ none)) ∙ c.if-is_empty.false)))
      refl;
  counts = search rules;
}

pub returns-else-next-eq0 : goal.returns-else-next-eq0
returns-else-next-eq0 g c = record {
  heads = IsHeadSet-opened g.row.FLLEN g.row.SLLEN c.args.fl c.args.sl c.args.next _ _ _ c.self.view_is c.requires.class.0 c.requires.class.1 c.self.told c.self.invariant refl;
  bits = λ r before after class is_head bits.
      let inside = subst (λ t. HasBits g.row.FLLEN g.row.SLLEN t (before ++ r ∷ after)) (sym c.self.view_is) bits in
      HasBits-some_left g.row.FLLEN g.row.SLLEN c.args.fl c.args.sl _ _ r before after class inside c.requires.class.0 (record {
        rows = row_words-length g.row.FLLEN g.row.SLLEN _ _;
        first = λ i apart. refl;
        places = λ k apart. refl;
        others = λ i within apart. refl;
      }) c.args.next is_head c.if-next-eq0.false refl refl;
  counts = search rules;
}

pub invariant_of-self : goal.invariant_of-self
invariant_of-self g c =
    HasPlaces-written g.row.FLLEN g.row.SLLEN c.args.fl c.args.sl c.args.next c.self.inside.heads c.requires.class.0 c.requires.class.1 c.self.told c.self.invariant

pub invariant_of-self-else-is_empty : goal.invariant_of-self-else-is_empty
invariant_of-self-else-is_empty g c =
    HasPlaces-written g.row.FLLEN g.row.SLLEN c.args.fl c.args.sl c.args.next c.self.inside.heads c.requires.class.0 c.requires.class.1 c.self.told c.self.invariant

pub invariant_of-self-else-next-eq0 : goal.invariant_of-self-else-next-eq0
invariant_of-self-else-next-eq0 g c =
    HasPlaces-written g.row.FLLEN g.row.SLLEN c.args.fl c.args.sl c.args.next c.self.inside.heads c.requires.class.0 c.requires.class.1 c.self.told c.self.invariant
