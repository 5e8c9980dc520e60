use Rattle.std.proofs.Common.{None}
use Rattle.soqe_text.proofs.Names.{is_new_fault, refused_declare}
use Rattle.soqe_text.proofs.new_names.declare_text.Goals as goal

pub returns-in-Ok-clause-ok : goal.returns-in-Ok-clause-ok
returns-in-Ok-clause-ok c = record {
  is_new = is_new_fault c.args.sig.now c.args.name.now c.args.kind None c.requires.sorts c.in-Ok.ensures.declared.0;
  num_is = c.in-Ok.ensures.declared.1;
  new_is = c.in-Ok.ensures.declared.2;
}

pub returns-in-Err-clause-refused : goal.returns-in-Err-clause-refused
returns-in-Err-clause-refused c =
    refused_declare c.args.sig.now c.declare.new.self c.args.name.now c.args.kind c.in-Err.fault c.name_fault.result c.name_fault.ensures c.in-Err.ensures.declared c.requires.sorts
