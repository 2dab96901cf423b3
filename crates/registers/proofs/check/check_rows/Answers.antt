-- The answer to the members' columns is the answer to the rows.
use Rattle.std.proofs.Common.{arith}
use Rattle.tables.specs.SheetIn.{sheet_in}
use Rattle.tables.proofs.SheetInLaws.{size_in}
use Rattle.rows.proofs.RowLaws.{rows_most, rows_readable}
use Rattle.columns.specs.Columns.{column_sets, columns_length}
use Rattle.columns.proofs.ColumnLaws.{zeros_empty}
use Rattle.registers.specs.Tallies.{Counted}
use Rattle.registers.proofs.CheckLaws.{others_none, columns_counted, members_most, checked_columns, tallied_columns}
use Rattle.registers.proofs.check.check_rows.Goals.{After-count_groups}
use Rattle.registers.proofs.check.check_rows.Goals as goal

-- the counts are those of the columns
counted : (c : After-count_groups)
    → Counted (sheet_in c.args.groups.now.table.now c.args.groups.now.size) (column_sets c.fill_columns-members.new.columns c.fill_columns-members.result)
    c.count_groups.new.counts
counted c =
    let t = c.args.groups.now in
    let z = size_in t.table.now t.size in
    columns_counted _ (omega (arith, z, t.tabled.small)) c.fill_columns-members.ensures c.blocks_for-used.ensures (rw z c.count_groups.ensures)

pub fill_columns-members-requires : goal.fill_columns-members-requires
fill_columns-members-requires c =
    let r = c.requires.read in
    (c.args.groups.now.tabled.small, (rows_most _ _ _ _ r, (rows_readable _ _ _ _ r, (omega arith, zeros_empty columns_length))))

pub blocks_for-used-requires : goal.blocks_for-used-requires
blocks_for-used-requires c = members_most _ _ _ _ c.requires.read c.fill_columns-members.ensures

pub scan-requires : goal.scan-requires
scan-requires c =
    let t = c.args.groups.now in
    let z = size_in t.table.now t.size in
    record {
      members = members_most _ _ _ _ c.requires.read c.fill_columns-members.ensures;
      others = λ h i y. others_none c.fill_columns-members.ensures h i y.first (omega (arith, y.last, z, t.tabled.small));
      sons = c.requires.listed;
      long = omega arith;
      counts = counted (goal.at.scan-requires c).After-count_groups;
    }

pub returns-clause-checked : goal.returns-clause-checked
returns-clause-checked c =
    let t = c.args.groups.now in
    checked_columns _ (omega (arith, size_in t.table.now t.size)) _ _ _ _ c.requires.read c.fill_columns-members.ensures _ t.tabled.tree c.scan.ensures

pub returns-clause-tallied : goal.returns-clause-tallied
returns-clause-tallied c =
    let t = c.args.groups.now in
    tallied_columns _ (omega (arith, size_in t.table.now t.size)) _ _ _ _ c.requires.read c.fill_columns-members.ensures _ _
    (counted (goal.at.returns-clause-tallied c).After-count_groups)
