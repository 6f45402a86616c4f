-- The parts of a sheet in turn are its bytes.
use Rattle.sheet.proofs.SheetPut.{workers_room, ranked_room, seated_room, tables_room, quarantine_room, all_there}
use Rattle.sheet.proofs.sheet.Sheet.encoded.Goals as goal

pub rows-requires : goal.rows-requires
rows-requires c = workers_room c.args.self.now c.classes.ensures c.workers.ensures.value c.tenants.ensures c.empty-sheet.ensures c.field.ensures

pub rows-requires-2 : goal.rows-requires-2
rows-requires-2 c = ranked_room c.args.self.now c.classes.ensures c.workers.ensures.value c.tenants.ensures c.empty-sheet.ensures c.field.ensures c.rows.ensures

pub rows-requires-3 : goal.rows-requires-3
rows-requires-3 c = seated_room c.args.self.now c.classes.ensures c.workers.ensures.value c.tenants.ensures c.empty-sheet.ensures c.field.ensures c.rows.ensures c.rows-2.ensures

pub rows-requires-4 : goal.rows-requires-4
rows-requires-4 c = tables_room c.args.self.now c.classes.ensures c.workers.ensures.value c.tenants.ensures c.empty-sheet.ensures c.field.ensures c.rows.ensures c.rows-2.ensures c.rows-3.ensures

pub field-requires-2 : goal.field-requires-2
field-requires-2 c =
    quarantine_room c.args.self.now c.classes.ensures c.workers.ensures.value c.tenants.ensures c.empty-sheet.ensures c.field.ensures c.rows.ensures c.rows-2.ensures c.rows-3.ensures
    c.rows-4.ensures c.as_slice.ensures

pub returns : goal.returns
returns c =
    all_there c.args.self.now c.classes.ensures c.workers.ensures.value c.tenants.ensures c.empty-sheet.ensures c.field.ensures c.rows.ensures c.rows-2.ensures c.rows-3.ensures
    c.rows-4.ensures c.as_slice.ensures c.field-2.ensures
