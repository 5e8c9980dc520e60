-- The tables by which a formula by itself is read, as the reader carries them.
use Rattle.soqe_text.specs.declared.form_tables.FormTables.{FormTables}
use Rattle.soqe_text.specs.SpelledForm.{Tables, tables}

-- the tables as a value
abbrev pub tables_of : FormTables → Tables
tables_of t = tables t.sig.now t.skolems.now t.free.now t.preds.now
