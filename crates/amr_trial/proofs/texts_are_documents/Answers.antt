use Rattle.amr_trial.proofs.Documents.{texts_are_documents}
use Rattle.amr_trial.proofs.ShortTexts.{texts_are_short, texts_are_utf8}
use Rattle.amr_trial.proofs.texts_are_documents.Goals as goal

pub returns-clause-documents : goal.returns-clause-documents
returns-clause-documents c = texts_are_documents

pub returns-clause-utf8 : goal.returns-clause-utf8
returns-clause-utf8 c = texts_are_utf8

pub returns-clause-short : goal.returns-clause-short
returns-clause-short c = texts_are_short
