use Rattle.pz_console.proofs.failure.report.Goals as goal

pub returns-in-OpenFault-clause-whole : goal.returns-in-OpenFault-clause-whole
returns-in-OpenFault-clause-whole g c = rw c.in-OpenFault.is c.write_parts-in-OpenFault.ensures.whole

pub returns-in-OpenFault-clause-cut : goal.returns-in-OpenFault-clause-cut
returns-in-OpenFault-clause-cut g c = rw c.in-OpenFault.is c.write_parts-in-OpenFault.ensures.cut

pub returns-in-ReadFault-clause-whole : goal.returns-in-ReadFault-clause-whole
returns-in-ReadFault-clause-whole g c = rw c.in-ReadFault.is c.write_parts-in-ReadFault.ensures.whole

pub returns-in-ReadFault-clause-cut : goal.returns-in-ReadFault-clause-cut
returns-in-ReadFault-clause-cut g c = rw c.in-ReadFault.is c.write_parts-in-ReadFault.ensures.cut

pub returns-in-WriteFault-clause-whole : goal.returns-in-WriteFault-clause-whole
returns-in-WriteFault-clause-whole g c = rw c.in-WriteFault.is (rw c.format.ensures.text at c.write_parts-in-WriteFault.ensures.whole)

pub returns-in-WriteFault-clause-cut : goal.returns-in-WriteFault-clause-cut
returns-in-WriteFault-clause-cut g c = rw c.in-WriteFault.is (rw c.format.ensures.text at c.write_parts-in-WriteFault.ensures.cut)
