-- The page is refused or written by the length that was computed.
use Rattle.board_sheet.proofs.AskingSheet.{short_refused, sheet_written}
use Rattle.board_sheet.proofs.sheet_on.Goals as goal

pub returns-then-page-length : goal.returns-then-page-length
returns-then-page-length c = short_refused c.requires.sound_table c.requires.loaded c.sheet_length-length.ensures c.args.page.now c.if-page-length.true

pub returns : goal.returns
returns c = sheet_written c.requires.sound_table c.requires.loaded c.sheet_length-length.ensures c.args.page.now c.list_jobs.ensures c.if-page-length.false _ c.write.ensures
