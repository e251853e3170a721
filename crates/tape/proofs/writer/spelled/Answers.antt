use Rattle.tape.proofs.Laws.{reads_back, spelled_alone}
use Rattle.tape.proofs.writer.spelled.Goals as goal

pub returns-clause-read : goal.returns-clause-read
returns-clause-read c = reads_back c.args.record.now c.fields-fields.ensures.fits

pub returns-clause-alone : goal.returns-clause-alone
returns-clause-alone c = spelled_alone c.args.record.now c.fields-fields.ensures.fits
