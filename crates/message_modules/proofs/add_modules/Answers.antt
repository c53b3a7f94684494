use Rattle.message_modules.proofs.Adding.{appended, none_of_malformed}
use Rattle.message_modules.proofs.add_modules.Goals as goal

pub returns-in-Ok : goal.returns-in-Ok
returns-in-Ok c = appended _ c.append.result c.in-Ok.ensures.ok c.append.ensures.items

pub returns-in-Err-Malformed : goal.returns-in-Err-Malformed
returns-in-Err-Malformed c = none_of_malformed c.in-Err-Malformed.ensures.malformed c.in-Err-Malformed.field-0-is
