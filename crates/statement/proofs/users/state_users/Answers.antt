-- The arrays are long enough for every user; what is worked out stands in their first entries.
use Rattle.std.proofs.Common.{pos, sym, ◌∙◌, to_z-of_z, length-take-le}
use Rattle.std.proofs.lemmas.List.{take-replicate}
use Rattle.charges.proofs.Amounts.{few, use_count, overrun_count, chargeable, compensable}
use Rattle.statement.proofs.Owing.{debit_count, credit_count, vme_count, amounts, user_rows_are}
use Rattle.statement.proofs.users.state_users.Goals as goal

pub slice_bounds-vme-end : goal.slice_bounds-vme-end
slice_bounds-vme-end c = sym (length-take-le _ _ (few c.requires.0.2))

pub charge-requires : goal.charge-requires
charge-requires c = let m = c.requires.0.2 in chargeable m (length-take-le _ _ (few m))

pub slice_bounds-cpv-end : goal.slice_bounds-cpv-end
slice_bounds-cpv-end c = sym (length-take-le _ _ (few c.requires.0.2))

pub compensate-requires : goal.compensate-requires
compensate-requires c = let m = c.requires.0.2 in rw (to_z-of_z c.ranges.pv) (compensable m (take-replicate _ 512 (pos 0) (few m)))

pub rows-requires : goal.rows-requires
rows-requires c =
    let m = c.requires.0.2 in
    record {
      use_count = use_count m;
      overrun_count = overrun_count m;
      vme_count = vme_count m c.ranges.pv c.charge.ensures c.compensate.ensures;
      debit_count = debit_count m c.requires.0.3;
      credit_count = credit_count m c.requires.0.3;
      out_count = c.requires.1;
      amounts = amounts m c.ranges.pv c.charge.ensures c.compensate.ensures;
    }

pub returns : goal.returns
returns c st l m b = c.rows.ensures ∙ user_rows_are m c.ranges.pv c.charge.ensures c.compensate.ensures b
