-- The block is the head of its class, and the class's bits are set.
use Rattle.std.proofs.Common.{rules, [], refl, sym, subst}
use Rattle.rlsf_table.specs.Table.{HasBits}
use Rattle.rlsf_table.proofs.Tables.Heads.{IsHeadSet-written, IsHeadSet-opened}
use Rattle.rlsf_table.proofs.Tables.Bits.{HasBits-put}
use Rattle.rlsf_table.proofs.Tables.Rows.{row_words-length, rows-bit_set, rows-same}
use Rattle.rlsf_table.proofs.table.ClassTable.put.Goals as goal

pub invariant_of-self : goal.invariant_of-self
invariant_of-self g c =
    (IsHeadSet-written g.row.FLLEN g.row.SLLEN c.args.fl c.args.sl c.args.block (record { first_level = 0; second_level = []; heads = c.self.inside.heads })
    (record { first_level = 0; second_level = []; heads = _ })
    c.requires.class.0 c.requires.class.1 c.self.told c.self.invariant refl).places

pub returns : goal.returns
returns g c = record {
  heads = IsHeadSet-opened g.row.FLLEN g.row.SLLEN c.args.fl c.args.sl c.args.block _ _ _ c.self.view_is c.requires.class.0 c.requires.class.1 c.self.told c.self.invariant refl;
  bits = λ r free class bits.
      let inside = subst (λ t. HasBits g.row.FLLEN g.row.SLLEN t free) (sym c.self.view_is) bits in
      HasBits-put g.row.FLLEN g.row.SLLEN c.args.fl c.args.sl _ _ r free class (record {
        first = c.insert-2.ensures.own;
        rows = row_words-length g.row.FLLEN g.row.SLLEN _ _;
        second = λ k. rows-bit_set g.row.FLLEN g.row.SLLEN _ _ _ _ c.args.fl c.requires.class.0 k c.args.sl (c.insert.ensures.own k);
        others = λ i within apart. rows-same g.row.FLLEN g.row.SLLEN _ _ _ _ i within (c.insert.ensures.others i apart);
      }) inside;
  counts = search rules;
}
