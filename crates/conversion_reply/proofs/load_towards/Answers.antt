-- `load_towards` meets its contract: the refusal of the sheet or of its way, or the head.
use mathlib.Core.Path.{refl}
use native.Mathlib.Omega.{arith}
use borrow.Author.Rules.{rules}
use Rattle.reading.specs.declared.sheet_tables.Tables.{Tables}
use Rattle.wire.specs.Edition.{edition_of}
use Rattle.reading.proofs.LoadedLaws.{loaded_sheet, loaded_held, loaded_refused}
use Rattle.conversion_reply.specs.Way.{unreadable}
use Rattle.conversion_reply.proofs.GivenLaws.{sheet_confined, sheet_there, way_back}
use Rattle.conversion_reply.proofs.load_towards.Goals as goal

pub load_sheet-requires : goal.load_sheet-requires
load_sheet-requires c = record { group_room = omega arith; name_room = omega arith; label_room = omega arith; claim_room = omega arith }

pub returns-in_err-head : goal.returns-in_err-head
returns-in_err-head c = way_back _ _ c.from_residual.ensures.1 (unreadable (loaded_refused c.load_sheet.ensures _ c.in_err-head.was))

pub may_go-requires : goal.may_go-requires
may_go-requires c =
    let load = c.load_sheet.ensures in
    let told = c.in_ok-head.was in
    let n = c.load_sheet.new in
    let t : Tables = record { groups = n.groups; names = n.names; labels = n.labels; claims = n.claims } in
    let held = loaded_held load _ told in
    record { tables = t; same = refl; reads = loaded_sheet load _ told; limits = held.limits; whole = held.whole; room = search rules }

pub returns-in_err-may_go : goal.returns-in_err-may_go
returns-in_err-may_go c =
    let n = c.load_sheet.new in
    let t : Tables = record { groups = n.groups; names = n.names; labels = n.labels; claims = n.claims } in
    way_back _ _ c.from_residual-in_err-may_go.ensures.1
    (sheet_confined (edition_of c.args.edition) c.in_ok-head.head t (loaded_sheet c.load_sheet.ensures _ c.in_ok-head.was)
    c.may_go.ensures _ c.in_err-may_go.was)

pub returns : goal.returns
returns c =
    let n = c.load_sheet.new in
    let t : Tables = record { groups = n.groups; names = n.names; labels = n.labels; claims = n.claims } in
    sheet_there (edition_of c.args.edition) c.in_ok-head.head t (loaded_sheet c.load_sheet.ensures _ c.in_ok-head.was)
    c.may_go.ensures _ c.in_ok-may_go.was
